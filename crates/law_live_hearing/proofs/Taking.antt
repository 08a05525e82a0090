-- a last cell that comes to a channel ends a frame that is whole, or its mark is entered into the ledger

use Rattle.std.proofs.Common.{◌≡◌, ℕ, ◌||◌, Bool, true, false, true≢false, List, [], ◌∷◌, ◌++◌, length, Option, None, Some, refl, sym, ◌∙◌, ap, subst, arith, if◌then◌else◌}
use Rattle.std.specs.Prelude.{nat_le, not}
use Rattle.std.proofs.lemmas.Bool.Decides.{nat_tests}
use Rattle.world_model.specs.Words.{Mark, Cell, Entry, Loss, Broken, PoolFull, Journal, noted, has_entry, same_mark, Reassembly, broken, marks_of, most_cells, passed_over, without_slot, too_long, payload_in}
use Rattle.world_model.specs.frame_model.Frame.{octets_of}
use Rattle.world_model.specs.frame_model.Reassembly.{Taken, taken, cell_joined}
use Rattle.law_live_frames.proofs.Breaking.{is_among, last_among, whole_left, more_left}
use Rattle.law_live_hearing.proofs.Switching.{last_entry}

-- *What is entered stays*, and so each mark of a chain that fails is entered
has_more : (entries : List Entry) (entry : Entry) (mark : Mark) → has_entry entries mark ≡ true → has_entry (entries ++ entry ∷ []) mark ≡ true
has_more [] entry mark has = absurd (cc has)
has_more (x ∷ entries) entry mark has = by (same_mark x.mark mark) has (has_more entries entry mark)
  where
    by : (b : Bool) → (b || has_entry entries mark) ≡ true → (has_entry entries mark ≡ true → has_entry (entries ++ entry ∷ []) mark ≡ true)
        → (b || has_entry (entries ++ entry ∷ []) mark) ≡ true
    by true h later = refl
    by false h later = later h

still_has : (marks : List Mark) (notes : Journal) (mark : Mark) → has_entry notes.entries mark ≡ true → has_entry (broken notes marks).entries mark ≡ true
still_has [] notes mark has = has
still_has (x ∷ marks) notes mark has = by (has_entry notes.entries x) (still_has marks notes mark has)
    (still_has marks (noted notes (Loss x Broken)) mark (has_more notes.entries (record { mark = x; cause = Broken }) mark has))
  where
    by : (b : Bool) → has_entry (broken notes marks).entries mark ≡ true → has_entry (broken (noted notes (Loss x Broken)) marks).entries mark ≡ true
        → has_entry (broken (if b then notes else noted notes (Loss x Broken)) marks).entries mark ≡ true
    by true same more = same
    by false same more = more

mark_is : (a b : Mark) → same_mark a b ≡ true → a ≡ b
mark_is a b same = λ i. record { packet = packet i; frame = frame i }
  where
    packet : a.packet ≡ b.packet
    packet = grind (arith, nat_tests, same)

    frame : a.frame ≡ b.frame
    frame = grind (arith, nat_tests, same)

pub broken_has : (marks : List Mark) (notes : Journal) (mark : Mark) → is_among mark marks ≡ true → has_entry (broken notes marks).entries mark ≡ true
broken_has [] notes mark among = absurd (cc among)
broken_has (x ∷ marks) notes mark among = by (has_entry notes.entries x) refl (same_mark x mark) refl among
    (λ h. broken_has marks notes mark h) (λ h. broken_has marks (noted notes (Loss x Broken)) mark h)
  where
    by : (b : Bool) → has_entry notes.entries x ≡ b → (c : Bool) → same_mark x mark ≡ c → (c || is_among mark marks) ≡ true
        → (is_among mark marks ≡ true → has_entry (broken notes marks).entries mark ≡ true)
        → (is_among mark marks ≡ true → has_entry (broken (noted notes (Loss x Broken)) marks).entries mark ≡ true)
        → has_entry (broken (if b then notes else noted notes (Loss x Broken)) marks).entries mark ≡ true
    by true e true s h same more = still_has marks notes mark (ap (has_entry notes.entries) (sym (mark_is x mark s)) ∙ e)
    by false e true s h same more = still_has marks (noted notes (Loss x Broken)) mark
        (subst (λ (m : Mark). has_entry (notes.entries ++ record { mark = x; cause = Broken } ∷ []) m ≡ true) (mark_is x mark s) (last_entry notes.entries (record { mark = x; cause = Broken })))
    by true e false s h same more = same h
    by false e false s h same more = more h

-- *A last cell comes*: what ends the event's notes is told by what the cell leaves
module _ (notes : Journal) (r : Reassembly) (cell : Cell) (slot : Bool) (last : cell.header.last ≡ true) (finish : Taken → Journal)
    (quiet : (t : Taken) → t.ended ≡ [] → finish t ≡ t.notes)
    (fails : (t : Taken) (chain : List Cell) → t.ended ≡ chain ++ cell ∷ [] → payload_in (octets_of (chain ++ cell ∷ [])) ≡ None
    → finish t ≡ broken t.notes (marks_of (chain ++ cell ∷ [])))
    (unlost : has_entry (finish (taken notes slot r cell)).entries cell.mark ≡ false) where
  pub record Passes : Type 0 where
    pub payload : List ℕ
    pub going : r.is_skipping ≡ false
    pub slot_is : slot ≡ true
    pub short : nat_le most_cells (length r.chain) ≡ false
    pub test : payload_in (octets_of (r.chain ++ cell ∷ [])) ≡ Some payload
    pub left : taken notes slot r cell ≡ whole_left notes r cell

  -- it isn't entered
  not_entered : (t : Taken) → taken notes slot r cell ≡ t → has_entry (finish t).entries cell.mark ≡ true → ⊥
  not_entered t is has = true≢false (sym (ap (λ (u : Taken). has_entry (finish u).entries cell.mark) is ∙ has) ∙ unlost)

  quietly : (t : Taken) → t.ended ≡ [] → has_entry t.notes.entries cell.mark ≡ true → has_entry (finish t).entries cell.mark ≡ true
  quietly t none has = ap (λ (n : Journal). has_entry n.entries cell.mark) (quiet t none) ∙ has

  by_skipping : (b : Bool) → r.is_skipping ≡ b → Passes
  by_skipping true e = absurd (not_entered (passed_over notes r cell)
      (ap (λ (b : Bool). if b then passed_over notes r cell else (if not slot then without_slot notes r cell else (if nat_le most_cells (length r.chain) then too_long notes r cell else cell_joined notes r cell))) e)
      (quietly (passed_over notes r cell) refl (broken_has (cell.mark ∷ []) notes cell.mark (last_among [] cell))))
  by_skipping false e = by_slot slot refl
    where
      going_on : taken notes slot r cell ≡ (if not slot then without_slot notes r cell else (if nat_le most_cells (length r.chain) then too_long notes r cell else cell_joined notes r cell))
      going_on = ap (λ (b : Bool). if b then passed_over notes r cell else (if not slot then without_slot notes r cell else (if nat_le most_cells (length r.chain) then too_long notes r cell else cell_joined notes r cell))) e

      by_slot : (b : Bool) → slot ≡ b → Passes
      by_slot false s = absurd (not_entered (without_slot notes r cell)
          (going_on ∙ ap (λ (b : Bool). if not b then without_slot notes r cell else (if nat_le most_cells (length r.chain) then too_long notes r cell else cell_joined notes r cell)) s)
          (quietly (without_slot notes r cell) refl (still_has (marks_of r.chain) (noted notes (Loss cell.mark PoolFull)) cell.mark (last_entry notes.entries (record { mark = cell.mark; cause = PoolFull })))))
      by_slot true s = by_length (nat_le most_cells (length r.chain)) refl
        where
          has_room : taken notes slot r cell ≡ (if nat_le most_cells (length r.chain) then too_long notes r cell else cell_joined notes r cell)
          has_room = going_on ∙ ap (λ (b : Bool). if not b then without_slot notes r cell else (if nat_le most_cells (length r.chain) then too_long notes r cell else cell_joined notes r cell)) s

          by_length : (b : Bool) → nat_le most_cells (length r.chain) ≡ b → Passes
          by_length true long = absurd (not_entered (too_long notes r cell)
              (has_room ∙ ap (λ (b : Bool). if b then too_long notes r cell else cell_joined notes r cell) long)
              (quietly (too_long notes r cell) refl (broken_has (marks_of (r.chain ++ cell ∷ [])) notes cell.mark (last_among r.chain cell))))
          by_length false short = by_test (payload_in (octets_of (r.chain ++ cell ∷ []))) refl
            where
              is_whole : taken notes slot r cell ≡ whole_left notes r cell
              is_whole = has_room ∙ (ap (λ (b : Bool). if b then too_long notes r cell else cell_joined notes r cell) short
                  ∙ ap (λ (b : Bool). if b then whole_left notes r cell else more_left notes r cell) last)

              by_test : (o : Option (List ℕ)) → payload_in (octets_of (r.chain ++ cell ∷ [])) ≡ o → Passes
              by_test None t = absurd (not_entered (whole_left notes r cell) is_whole
                  (ap (λ (n : Journal). has_entry n.entries cell.mark) (fails (whole_left notes r cell) r.chain refl t)
                  ∙ broken_has (marks_of (r.chain ++ cell ∷ [])) notes cell.mark (last_among r.chain cell)))
              by_test (Some payload) t = record { payload = payload; going = e; slot_is = s; short = short; test = t; left = is_whole }

  pub passes : Passes
  passes = by_skipping r.is_skipping refl
