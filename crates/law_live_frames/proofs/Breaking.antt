-- what a chain that fails, or a cell that is passed over, enters into the ledger

use Rattle.std.proofs.Common.{◌≡◌, ℕ, zero, suc, ◌<◌, Bool, true, false, List, [], ◌∷◌, ◌++◌, length, append_assoc, append-nil, Option, None, Some, refl, sym, ◌∙◌, ap, subst, arith, if◌then◌else◌, map, slice_get}
use Rattle.std.specs.Prelude.{◌==◌, ◌&&◌, ◌||◌, nat_le}
use Rattle.std.specs.List.{list_any}
use Rattle.std.proofs.lemmas.Bool.Decides.{nat_tests}
use Rattle.world_model.specs.Words.{Mark, Cell, Entry, Broken, Loss, Journal, noted, has_entry, same_mark, Reassembly, broken, marks_of, most_cells, passed_over, too_long, payload_in}
use Rattle.world_model.specs.frame_model.Frame.{octets_of}
use Rattle.world_model.specs.frame_model.Reassembly.{Taken, taken, cell_joined}

-- *Numbers, and marks*, are the same as themselves
pub number_itself : (n : ℕ) → (n == n) ≡ true
number_itself n = grind (arith, nat_tests)

pub both : (x y : Bool) → x ≡ true → y ≡ true → (x && y) ≡ true
both true y p q = q
both false y p q = absurd (cc p)

pub mark_itself : (m : Mark) → same_mark m m ≡ true
mark_itself m = both (m.packet == m.packet) (m.frame == m.frame) (number_itself m.packet) (number_itself m.frame)

abbrev pub broken_entry : Mark → Entry
broken_entry mark = record { mark = mark; cause = Broken }

-- *Entries*: those that were there, and these that are Broken
pub record Breaks (before after : List Entry) : Type 0 where
  pub first : Mark
  pub rest : List Mark
  pub are : after ≡ before ++ map broken_entry (first ∷ rest)

record Adds (before after : List Entry) : Type 0 where
  new : List Mark
  are : after ≡ before ++ map broken_entry new

adds : (marks : List Mark) (notes : Journal) → Adds notes.entries (broken notes marks).entries
adds [] notes = record { new = []; are = sym (append-nil notes.entries) }
adds (mark ∷ marks) notes = by (has_entry notes.entries mark) (adds marks notes) (adds marks (noted notes (Loss mark Broken)))
  where
    by : (b : Bool) → Adds notes.entries (broken notes marks).entries → Adds (noted notes (Loss mark Broken)).entries (broken (noted notes (Loss mark Broken)) marks).entries
        → Adds notes.entries (broken (if b then notes else noted notes (Loss mark Broken)) marks).entries
    by true same more = same
    by false same more = (
        record { new = mark ∷ more.new; are = more.are ∙ append_assoc notes.entries (broken_entry mark ∷ []) (map broken_entry more.new) })

-- a mark without an entry is among them
abbrev pub is_among : Mark → List Mark → Bool
is_among mark marks = list_any (λ other. same_mark other mark) marks

marks_are : (a b : Mark) → same_mark a b ≡ true → a ≡ b
marks_are a b same = (let p = left (a.packet == b.packet) (a.frame == b.frame) same in let f = right (a.packet == b.packet) (a.frame == b.frame) same in joined_parts (number a.packet b.packet p) (number a.frame b.frame f))
  where
    left : (x y : Bool) → (x && y) ≡ true → x ≡ true
    left true y h = refl
    left false y h = absurd (cc h)

    right : (x y : Bool) → (x && y) ≡ true → y ≡ true
    right true y h = h
    right false y h = absurd (cc h)

    number : (m n : ℕ) → (m == n) ≡ true → m ≡ n
    number m n t = grind (arith, nat_tests)

    joined_parts : a.packet ≡ b.packet → a.frame ≡ b.frame → a ≡ b
    joined_parts p f = λ i. record { packet = p i; frame = f i }

breaks : (marks : List Mark) (notes : Journal) (mark : Mark) → has_entry notes.entries mark ≡ false → is_among mark marks ≡ true
    → Breaks notes.entries (broken notes marks).entries
breaks [] notes mark none among = absurd (cc among)
breaks (x ∷ marks) notes mark none among = by (has_entry notes.entries x) refl (breaks marks notes mark none)
  where
    by : (b : Bool) → has_entry notes.entries x ≡ b → (is_among mark marks ≡ true → Breaks notes.entries (broken notes marks).entries)
        → Breaks notes.entries (broken (if b then notes else noted notes (Loss x Broken)) marks).entries
    by false e later_breaks = (let more = adds marks (noted notes (Loss x Broken)) in
        record { first = x; rest = more.new; are = more.are ∙ append_assoc notes.entries (broken_entry x ∷ []) (map broken_entry more.new) })
    by true e later_breaks = later_breaks (later (same_mark x mark) refl among)
      where
        later : (b : Bool) → same_mark x mark ≡ b → (b || is_among mark marks) ≡ true → is_among mark marks ≡ true
        later false s h = h
        later true s h = absurd (cc (sym (ap (has_entry notes.entries) (marks_are x mark s) ∙ none) ∙ e))

-- a cell's mark is among those of the chain that it ends
pub last_among : (chain : List Cell) (cell : Cell) → is_among cell.mark (marks_of (chain ++ cell ∷ [])) ≡ true
last_among [] cell = ap (λ (b : Bool). b || false) (mark_itself cell.mark)
last_among (x ∷ chain) cell = either (same_mark x.mark cell.mark) (last_among chain cell)
  where
    either : (b : Bool) → is_among cell.mark (marks_of (chain ++ cell ∷ [])) ≡ true → (b || is_among cell.mark (marks_of (chain ++ cell ∷ []))) ≡ true
    either true h = refl
    either false h = h

-- what a last cell leaves, and what another leaves
abbrev pub whole_left : Journal → Reassembly → Cell → Taken
whole_left notes r cell = record { reassembly = record r { chain = [] }; notes = notes; ended = r.chain ++ cell ∷ [] }

abbrev pub more_left : Journal → Reassembly → Cell → Taken
more_left notes r cell = record { reassembly = record r { chain = r.chain ++ cell ∷ [] }; notes = notes; ended = [] }

-- the chain that a last cell ends
pub ended_whole : (notes : Journal) (r : Reassembly) (cell : Cell) → cell.header.last ≡ true → r.is_skipping ≡ false → nat_le most_cells (length r.chain) ≡ false
    → (taken notes true r cell).ended ≡ r.chain ++ cell ∷ []
ended_whole notes r cell last on short =
    ap (λ (b : Bool). (if b then passed_over notes r cell else (if nat_le most_cells (length r.chain) then too_long notes r cell else cell_joined notes r cell)).ended) on
    ∙ (ap (λ (b : Bool). (if b then too_long notes r cell else cell_joined notes r cell).ended) short
    ∙ ap (λ (b : Bool). (if b then whole_left notes r cell else more_left notes r cell).ended) last)

-- *A last cell comes* where a slot is free: what ends the event's notes is told by what the cell leaves
module _ (notes : Journal) (r : Reassembly) (cell : Cell) (last : cell.header.last ≡ true) (finish : Taken → Journal)
    (quiet : (t : Taken) → t.ended ≡ [] → finish t ≡ t.notes)
    (fails : (t : Taken) (chain : List Cell) → t.ended ≡ chain ++ cell ∷ [] → payload_in (octets_of (chain ++ cell ∷ [])) ≡ None
    → finish t ≡ broken t.notes (marks_of (chain ++ cell ∷ []))) (unlost : has_entry notes.entries cell.mark ≡ false) where
  -- it passes, or makes an entry Broken
  pub data Ends : Type 0 where
    passes : (payload : List ℕ) → r.is_skipping ≡ false → nat_le most_cells (length r.chain) ≡ false → payload_in (octets_of (r.chain ++ cell ∷ [])) ≡ Some payload → Ends
    breaks_there : Breaks notes.entries (finish (taken notes true r cell)).entries → Ends

  abbrev whole : Taken
  whole = whole_left notes r cell

  is_joined : cell_joined notes r cell ≡ whole
  is_joined = ap (λ (b : Bool). if b then whole_left notes r cell else more_left notes r cell) last

  by_skipping : (b : Bool) → r.is_skipping ≡ b → Ends
  by_skipping true e = breaks_there (subst (λ (t : Taken). Breaks notes.entries (finish t).entries)
      (sym (ap (λ (b : Bool). if b then passed_over notes r cell else (if nat_le most_cells (length r.chain) then too_long notes r cell else cell_joined notes r cell)) e))
      (subst (λ (n : Journal). Breaks notes.entries n.entries) (sym (quiet (passed_over notes r cell) refl)) (breaks (cell.mark ∷ []) notes cell.mark unlost (last_among [] cell))))
  by_skipping false e = by_length (nat_le most_cells (length r.chain)) refl
    where
      is_taken : taken notes true r cell ≡ (if nat_le most_cells (length r.chain) then too_long notes r cell else cell_joined notes r cell)
      is_taken = ap (λ (b : Bool). if b then passed_over notes r cell else (if nat_le most_cells (length r.chain) then too_long notes r cell else cell_joined notes r cell)) e

      by_length : (b : Bool) → nat_le most_cells (length r.chain) ≡ b → Ends
      by_length true long = breaks_there (subst (λ (t : Taken). Breaks notes.entries (finish t).entries)
          (sym (is_taken ∙ ap (λ (b : Bool). if b then too_long notes r cell else cell_joined notes r cell) long))
          (subst (λ (n : Journal). Breaks notes.entries n.entries) (sym (quiet (too_long notes r cell) refl)) (breaks (marks_of (r.chain ++ cell ∷ [])) notes cell.mark unlost (last_among r.chain cell))))
      by_length false long = by_test (payload_in (octets_of (r.chain ++ cell ∷ []))) refl
        where
          is_whole : taken notes true r cell ≡ whole
          is_whole = is_taken ∙ (ap (λ (b : Bool). if b then too_long notes r cell else cell_joined notes r cell) long ∙ is_joined)

          by_test : (o : Option (List ℕ)) → payload_in (octets_of (r.chain ++ cell ∷ [])) ≡ o → Ends
          by_test (Some payload) t = passes payload e long t
          by_test None t = breaks_there (subst (λ (x : Taken). Breaks notes.entries (finish x).entries) (sym is_whole)
              (subst (λ (n : Journal). Breaks notes.entries n.entries) (sym (fails whole r.chain refl t)) (breaks (marks_of (r.chain ++ cell ∷ [])) notes cell.mark unlost (last_among r.chain cell))))

  pub ends : Ends
  ends = by_skipping r.is_skipping refl

-- *An entry at a place*
pub at_length : {A : Type 0} (xs : List A) (y : A) (ys : List A) → slice_get (xs ++ y ∷ ys) (length xs) ≡ Some y
at_length [] y ys = refl
at_length (x ∷ xs) y ys = at_length xs y ys

pub at_front : {A : Type 0} (xs ys : List A) (n : ℕ) → n < length xs → slice_get (xs ++ ys) n ≡ slice_get xs n
at_front [] ys n low = absurd (omega (arith, low))
at_front (x ∷ xs) ys zero low = refl
at_front (x ∷ xs) ys (suc n) low = at_front xs ys n (omega (arith, low))

pub has_there : (entries : List Entry) (n : ℕ) (entry : Entry) → slice_get entries n ≡ Some entry → has_entry entries entry.mark ≡ true
has_there [] n entry e = absurd (none n e)
  where
    none : (n : ℕ) → slice_get [] n ≡ Some entry → ⊥
    none zero e = absurd (cc e)
    none (suc n) e = absurd (cc e)
has_there (x ∷ entries) zero entry e = subst (λ (y : Entry). (same_mark x.mark y.mark || has_entry entries y.mark) ≡ true) (one x entry e)
    (ap (λ (b : Bool). b || has_entry entries x.mark) (mark_itself x.mark))
  where
    one : (a b : Entry) → Some a ≡ Some b → a ≡ b
    one a b e = cc
has_there (x ∷ entries) (suc n) entry e = either (same_mark x.mark entry.mark) (has_there entries n entry e)
  where
    either : (b : Bool) → has_entry entries entry.mark ≡ true → (b || has_entry entries entry.mark) ≡ true
    either true h = refl
    either false h = h
