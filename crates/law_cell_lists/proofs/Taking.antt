-- a reassembly takes a cell, tests a chain, is cut: each entry Broken that it adds stands beside a cause

use Rattle.std.proofs.Common.{◌≡◌, ◌≢◌, ℕ, ◌≤◌, Bool, true, false, not, if◌then◌else◌, List, [], ◌∷◌, ◌++◌, map, filter, length, Option, None, Some, nat_le, refl, sym, ◌∙◌, ap, subst, arith, append_assoc, append-nil, ◌⊎◌, inl, inr}
use Rattle.std.specs.List.{list_any}
use Rattle.std.proofs.lemmas.Bool.Decides.{nat_tests}
use Rattle.world_model.specs.Words.{Mark, Cell, Entry, Cause, Broken, Cut, PoolFull, Loss, Chance, same_mark, has_entry, is_frame, Journal, noted, Reassembly, broken, marks_of, most_cells, skipping_from, nothing_taken, distinct, noted_all, cut, payload_in, tested, tested_by, last_mark, has_mark}
use Rattle.world_model.proofs.link_model.Marks.{same_mark-Decides}
use Rattle.world_model.specs.frame_model.Reassembly.{Taken, taken}
use Rattle.world_model.specs.frame_model.Frame.{octets_of, passed_test}
use Rattle.ordered_lists.specs.Ordered.{Every}
use Rattle.ordered_lists.proofs.Every.{every_map, every_left}
use Rattle.law_cell_lists.specs.Causes.{has_cause, is_cause_of, is_caused, bare}
use Rattle.law_cell_lists.proofs.Lists.{any_front, any_back, if_cases}
use Rattle.law_cell_lists.proofs.Frames.{IsWhole, IsOf, marks_behind}
use Rattle.law_cell_lists.proofs.Streams.{IsTorn, torn_kept, torn_by, Step, goes, begins, torn, step_kept, step_last}
use Rattle.law_cell_lists.proofs.Takers.{entry_kept, caused_front, caused_last, caused_kept, Stretch, free, caused, within, stretch_kept, stretch_slack, stretch_open, stretch_fails, stretch_long}

-- what is added
abbrev pub Beside : (stretch : List Cell) (entries more : List Entry) → Type 0
Beside stretch entries [] = Unit {0}
Beside stretch entries (e ∷ more) = (e.cause ≡ Broken → (has_mark stretch e.mark ≡ true) × (is_caused entries stretch ≡ true)) × Beside stretch (entries ++ e ∷ []) more

pub record Adds (stretch : List Cell) (old new : List Entry) : Type 0 where
  pub more : List Entry
  pub is : new ≡ old ++ more
  pub each : Beside stretch old more

pub adds_nothing : (stretch : List Cell) (old new : List Entry) → new ≡ old → Adds stretch old new
adds_nothing stretch old new same = record { more = []; is = same ∙ sym (append-nil old); each = tt }

beside_join : (stretch : List Cell) (old xs ys : List Entry) → Beside stretch old xs → Beside stretch (old ++ xs) ys → Beside stretch old (xs ++ ys)
beside_join stretch old [] ys h k = subst (λ (l : List Entry). Beside stretch l ys) (append-nil old) k
beside_join stretch old (x ∷ xs) ys h k = (h.0, beside_join stretch (old ++ x ∷ []) xs ys h.1 (subst (λ (l : List Entry). Beside stretch l ys) (sym (append_assoc old (x ∷ []) xs)) k))

pub adds_then : (stretch : List Cell) (a b c : List Entry) → Adds stretch a b → Adds stretch b c → Adds stretch a c
adds_then stretch a b c first second = record {
  more = first.more ++ second.more;
  is = second.is ∙ ap (λ l. l ++ second.more) first.is ∙ append_assoc a first.more second.more;
  each = beside_join stretch a first.more second.more first.each (subst (λ (l : List Entry). Beside stretch l second.more) first.is second.each);
}

pub adds_one : (stretch : List Cell) (old : List Entry) (e : Entry) → (e.cause ≡ Broken → (has_mark stretch e.mark ≡ true) × (is_caused old stretch ≡ true)) → Adds stretch old (old ++ e ∷ [])
adds_one stretch old e why = record { more = e ∷ []; is = refl; each = (why, tt) }

pub adds_broken : (stretch : List Cell) (marks : List Mark) (notes : Journal) → is_caused notes.entries stretch ≡ true → Every (λ mark. has_mark stretch mark ≡ true) marks → Adds stretch notes.entries (broken notes marks).entries
adds_broken stretch [] notes e own = adds_nothing stretch notes.entries notes.entries refl
adds_broken stretch (mark ∷ marks) notes e own =
    let next : Journal = noted notes (Loss mark Broken) in
    if_cases (λ (first : Journal). Adds stretch notes.entries (broken first marks).entries) (has_entry notes.entries mark) notes next (λ h. adds_broken stretch marks notes e own.1)
    (λ h. adds_then stretch notes.entries next.entries (broken next marks).entries (adds_one stretch notes.entries (record { mark = mark; cause = Broken }) (λ b. (own.0, e)))
    (adds_broken stretch marks next (caused_kept notes.entries (record { mark = mark; cause = Broken } ∷ []) stretch e) own.1))

-- marks that have entries get none
broken_none : (marks : List Mark) (notes : Journal) → Every (λ mark. has_entry notes.entries mark ≡ true) marks → (broken notes marks).entries ≡ notes.entries
broken_none [] notes h = refl
broken_none (mark ∷ marks) notes h =
    let next : Journal = noted notes (Loss mark Broken) in
    subst (λ (b : Bool). (broken (if b then notes else next) marks).entries ≡ notes.entries) (sym h.0) (broken_none marks notes h.1)

pub own_mark : (mark : Mark) → same_mark mark mark ≡ true
own_mark mark = grind (arith, nat_tests)

pub own_entry : (entries : List Entry) (mark : Mark) (cause : Cause) → has_entry (entries ++ record { mark = mark; cause = cause } ∷ []) mark ≡ true
own_entry entries mark cause = any_back (λ (other : Entry). same_mark other.mark mark) entries (record { mark = mark; cause = cause } ∷ []) (rw (own_mark mark) refl)

own_cells : (cells : List Cell) → Every (λ cell. has_mark cells cell.mark ≡ true) cells
own_cells [] = tt
own_cells (cell ∷ cells) = (
  rw (own_mark cell.mark) refl,
  every_map (λ (c : Cell). has_mark cells c.mark ≡ true) (λ (c : Cell). has_mark (cell ∷ cells) c.mark ≡ true) cells
      (λ c e. any_back (λ (other : Cell). same_mark other.mark c.mark) (cell ∷ []) cells e) (own_cells cells),
)

pub marks_all : (P : Mark → Type 0) (cells : List Cell) → Every (λ c. P c.mark) cells → Every P (marks_of cells)
marks_all P [] h = tt
marks_all P (c ∷ cells) h = (h.0, marks_all P cells h.1)

pub own_marks : (cells : List Cell) → Every (λ mark. has_mark cells mark ≡ true) (marks_of cells)
own_marks cells = marks_all (λ mark. has_mark cells mark ≡ true) cells (own_cells cells)

pub last_own : (begun : List Cell) (c : Cell) → has_mark (begun ++ c ∷ []) c.mark ≡ true
last_own begun c = any_back (λ (x : Cell). same_mark x.mark c.mark) begun (c ∷ []) (own_cells (c ∷ [])).0

broken_last : (marks : List Mark) (notes : Journal) (mark : Mark) → has_entry (broken notes (marks ++ mark ∷ [])).entries mark ≡ true
broken_last [] notes mark =
    let by : (b : Bool) → has_entry notes.entries mark ≡ b → has_entry (broken notes (mark ∷ [])).entries mark ≡ true = λ b eb.
    elim b as (λ v. has_entry notes.entries mark ≡ v → has_entry (broken notes (mark ∷ [])).entries mark ≡ true) [
      | true ↦ λ e. rw e e
      | false ↦ λ e. rw e (own_entry notes.entries mark Broken)
    ] eb in
    by (has_entry notes.entries mark) refl
broken_last (first ∷ marks) notes mark = broken_last marks (if has_entry notes.entries first then notes else noted notes (Loss first Broken)) mark

pub marks_of-push : (cells : List Cell) (cell : Cell) → marks_of (cells ++ cell ∷ []) ≡ marks_of cells ++ cell.mark ∷ []
marks_of-push [] cell = refl
marks_of-push (first ∷ cells) cell = ap (λ marks. first.mark ∷ marks) (marks_of-push cells cell)

-- what is to come is the rest of a frame whose mark has an entry, or stands in the stretch
pub record Run (entries : List Entry) (begun s : List Cell) : Type 0 where
  pub passed : List Cell
  pub x : Cell
  pub rest : List Cell
  pub is : s ≡ x ∷ rest
  pub whole : IsWhole (passed ++ x ∷ rest)
  pub why : (has_entry entries x.mark ≡ true) ⊎ (has_mark begun x.mark ≡ true)

abbrev pub Rest : List Entry → List Cell → List Cell → Type 0
Rest entries begun s = IsTorn entries s ⊎ Run entries begun s

why_more : (entries more : List Entry) (begun : List Cell) (mark : Mark) → (has_entry entries mark ≡ true) ⊎ (has_mark begun mark ≡ true) → (has_entry (entries ++ more) mark ≡ true) ⊎ (has_mark begun mark ≡ true)
why_more entries more begun mark (inl e) = inl (entry_kept entries more mark e)
why_more entries more begun mark (inr e) = inr e

pub rest_kept : (entries more : List Entry) (begun s : List Cell) → Rest entries begun s → Rest (entries ++ more) begun s
rest_kept entries more begun s (inl t) = inl (torn_kept entries more s t)
rest_kept entries more begun s (inr r) = inr (record { passed = r.passed; x = r.x; rest = r.rest; is = r.is; whole = r.whole; why = why_more entries more begun r.x.mark r.why })

behind : (entries : List Entry) (begun passed : List Cell) (c : Cell) (next : List Cell) → IsWhole (passed ++ bare c ∷ next) → (has_entry entries c.mark ≡ true) ⊎ (has_mark begun c.mark ≡ true) → Rest entries begun next
behind entries begun passed c [] w why = inl tt
behind entries begun passed c (x ∷ rest) w why =
    let marks : Every (IsOf c.mark) (x ∷ rest) = marks_behind passed (bare c) (x ∷ rest) w in
    inr (record {
      passed = passed ++ bare c ∷ [];
      x = x;
      rest = rest;
      is = refl;
      whole = subst IsWhole (sym (append_assoc passed (bare c ∷ []) (x ∷ rest))) w;
      why = subst (λ (m : Mark). (has_entry entries m ≡ true) ⊎ (has_mark begun m ≡ true)) (sym marks.0) why;
    })

pub step_rest : (entries : List Entry) (begun s : List Cell) (c : Cell) (next : List Cell) → (has_entry entries c.mark ≡ true) ⊎ (has_mark begun c.mark ≡ true) → Step entries s c next → Rest entries begun next
step_rest entries begun s c next why (goes passed w is) = behind entries begun passed c next w why
step_rest entries begun s c next why (begins t w) = behind entries begun [] c next w why
step_rest entries begun s c next why (torn t e none) = inl (subst (IsTorn entries) (sym none) tt)

-- the reassembly of a channel
pub record IsTaker (entries : List Entry) (begun : List Cell) (r : Reassembly) (s : List Cell) : Type 0 where
  pub stretch : Stretch entries begun s
  pub rest : Rest entries begun s
  pub chain : r.is_skipping ≡ false → r.chain ≡ begun
  pub gone : r.is_skipping ≡ true → r.chain ≡ []
  pub cause : r.is_skipping ≡ true → is_caused entries begun ≡ true
  pub spent : r.is_skipping ≡ true → Rest entries [] s

pub taker_kept : (entries more : List Entry) (begun : List Cell) (r : Reassembly) (s : List Cell) → IsTaker entries begun r s → IsTaker (entries ++ more) begun r s
taker_kept entries more begun r s p = record {
  stretch = stretch_kept entries more begun s p.stretch;
  rest = rest_kept entries more begun s p.rest;
  chain = p.chain;
  gone = p.gone;
  cause = λ e. caused_kept entries more begun (p.cause e);
  spent = λ e. rest_kept entries more [] s (p.spent e);
}

-- the next cell was lost
pub taker_slack : (entries : List Entry) (begun : List Cell) (r : Reassembly) (s next : List Cell) → IsTorn entries s → IsTorn entries next → IsTaker entries begun r s → IsTaker entries begun r next
taker_slack entries begun r s next t u p = record {
  stretch = stretch_slack entries begun s next t u p.stretch;
  rest = inl u;
  chain = p.chain;
  gone = p.gone;
  cause = p.cause;
  spent = λ e. inl u;
}

pub taker_new : (entries : List Entry) (s : List Cell) → IsTorn entries s → IsTaker entries [] nothing_taken s
taker_new entries s t = record { stretch = free refl t; rest = inl t; chain = λ e. refl; gone = λ e. refl; cause = λ e. absurd (cc e); spent = λ e. absurd (cc e) }

-- behind a cell
abbrev pub stretch_after : List Cell → Cell → List Cell
stretch_after begun c = if c.header.last then [] else begun ++ c ∷ []

ends_empty : (entries : List Entry) (next : List Cell) (r : Reassembly) → r.is_skipping ≡ false → r.chain ≡ [] → next ≡ [] → IsTaker entries [] r next
ends_empty entries next r reading none last =
    let t : IsTorn entries next = subst (IsTorn entries) (sym last) tt in
    record { stretch = free refl t; rest = inl t; chain = λ e. none; gone = λ e. none; cause = λ e. absurd (cc (sym reading ∙ e)); spent = λ e. absurd (cc (sym reading ∙ e)) }

skips : (entries : List Entry) (begun : List Cell) (c : Cell) (s next : List Cell) (last : Bool) → c.header.last ≡ last → is_caused entries (begun ++ c ∷ []) ≡ true → has_entry entries c.mark ≡ true → Step entries s c next
    → IsTaker entries (if last then [] else begun ++ c ∷ []) (record { chain = []; is_skipping = not last }) next
skips entries begun c s next true is e entered k = ends_empty entries next (record { chain = []; is_skipping = false }) refl refl (step_last entries s c next is k)
skips entries begun c s next false is e entered k = record {
  stretch = caused e;
  rest = step_rest entries (begun ++ c ∷ []) s c next (inl entered) k;
  chain = λ h. absurd (cc h);
  gone = λ h. refl;
  cause = λ h. e;
  spent = λ h. step_rest entries [] s c next (inl entered) k;
}

-- what it leaves
pub record Leaves (notes : Journal) (begun : List Cell) (c : Cell) (next : List Cell) (t : Taken) : Type 0 where
  pub taker : IsTaker t.notes.entries (stretch_after begun c) t.reassembly next
  pub adds : Adds (begun ++ c ∷ []) notes.entries t.notes.entries

skipped : (notes new : Journal) (begun : List Cell) (s : List Cell) (c : Cell) (next : List Cell) → Adds (begun ++ c ∷ []) notes.entries new.entries → is_caused new.entries (begun ++ c ∷ []) ≡ true → has_entry new.entries c.mark ≡ true → Step notes.entries s c next
    → Leaves notes begun c next (record { reassembly = skipping_from c; notes = new; ended = [] })
skipped notes new begun s c next adds e entered k = record {
  taker = skips new.entries begun c s next c.header.last refl e entered (subst (λ (l : List Entry). Step l s c next) (sym adds.is) (step_kept notes.entries adds.more s c next k));
  adds = adds;
}

same_skip : (r : Reassembly) (c : Cell) → r.chain ≡ [] → ◌≡◌ {A = Reassembly} (skipping_from c) (record r { is_skipping = not c.header.last })
same_skip r c none = λ i. record { chain = sym none i; is_skipping = not c.header.last }

adds_caused : (stretch : List Cell) (old new : List Entry) → Adds stretch old new → is_caused old stretch ≡ true → is_caused new stretch ≡ true
adds_caused stretch old new adds e = subst (λ (l : List Entry). is_caused l stretch ≡ true) (sym adds.is) (caused_kept old adds.more stretch e)

is_long : (r : Reassembly) → nat_le most_cells (length r.chain) ≡ true → 32 ≤ length r.chain
is_long r e = grind (arith, nat_tests)

pub taker_takes : (notes : Journal) (has_slot : Bool) (begun : List Cell) (r : Reassembly) (s : List Cell) (c : Cell) (next : List Cell) → IsTaker notes.entries begun r s → Step notes.entries s c next
    → Leaves notes begun c next (taken notes has_slot r c)
taker_takes notes has_slot begun r s c next p k =
    let entries : List Entry = notes.entries in
    let all : List Cell = begun ++ c ∷ [] in
    let P : Taken → Type 0 = λ t. Leaves notes begun c next t in
    if_cases P r.is_skipping _ _
    (λ skipping. (
    let e : is_caused entries all ≡ true = caused_front entries begun (c ∷ []) (p.cause skipping) in
    let new : Journal = broken notes (c.mark ∷ []) in
    let adds : Adds all entries new.entries = adds_broken all (c.mark ∷ []) notes e (last_own begun c, tt) in
    subst (λ (q : Reassembly). P (record { reassembly = q; notes = new; ended = [] })) (same_skip r c (p.gone skipping))
    (skipped notes new begun s c next adds (adds_caused all entries new.entries adds e) (broken_last [] notes c.mark) k)))
    (λ reading. (
    let chain : r.chain ≡ begun = p.chain reading in
    if_cases P (not has_slot) _ _
    (λ full. (
    let entry : Entry = record { mark = c.mark; cause = PoolFull } in
    let first : Journal = noted notes (Loss c.mark PoolFull) in
    let new : Journal = broken first (marks_of r.chain) in
    let lost : has_cause first.entries c.mark ≡ true = any_back (is_cause_of c.mark) entries (entry ∷ []) (rw (own_mark c.mark) refl) in
    let e : is_caused first.entries all ≡ true = caused_last first.entries begun c lost in
    let own : Every (λ mark. has_mark all mark ≡ true) (marks_of r.chain) = subst (λ (l : List Cell). Every (λ mark. has_mark all mark ≡ true) (marks_of l)) (sym chain)
    (marks_all (λ mark. has_mark all mark ≡ true) begun (every_left (λ x. has_mark all x.mark ≡ true) begun (c ∷ []) (own_cells all))) in
    let one : Adds all entries first.entries = adds_one all entries entry (λ h. absurd (cc h)) in
    let rest : Adds all first.entries new.entries = adds_broken all (marks_of r.chain) first e own in
    skipped notes new begun s c next (adds_then all entries first.entries new.entries one rest) (adds_caused all first.entries new.entries rest e)
    (subst (λ (l : List Entry). has_entry l c.mark ≡ true) (sym rest.is) (entry_kept first.entries rest.more c.mark (own_entry entries c.mark PoolFull))) k))
    (λ room. if_cases P (nat_le most_cells (length r.chain)) _ _
    (λ h. (
    let long : 32 ≤ length begun = subst (λ (l : List Cell). 32 ≤ length l) chain (is_long r h) in
    let e : is_caused entries all ≡ true = stretch_long entries begun s c next long p.stretch k in
    let new : Journal = broken notes (marks_of (r.chain ++ c ∷ [])) in
    let own : Every (λ mark. has_mark all mark ≡ true) (marks_of (r.chain ++ c ∷ [])) =
    subst (λ (l : List Cell). Every (λ mark. has_mark all mark ≡ true) (marks_of (l ++ c ∷ []))) (sym chain) (own_marks all) in
    let adds : Adds all entries new.entries = adds_broken all (marks_of (r.chain ++ c ∷ [])) notes e own in
    skipped notes new begun s c next adds (adds_caused all entries new.entries adds e)
    (subst (λ (l : List Mark). has_entry (broken notes l).entries c.mark ≡ true) (sym (marks_of-push r.chain c)) (broken_last (marks_of r.chain) notes c.mark)) k))
    (λ short. if_cases P c.header.last _ _
    (λ last. record {
      taker = subst (λ (v : Bool). IsTaker entries (if v then [] else all) (record r { chain = [] }) next) (sym last) (ends_empty entries next (record r { chain = [] }) reading refl (step_last entries s c next last k));
      adds = adds_nothing all entries entries refl;
    })
    (λ early. record {
      taker = subst (λ (v : Bool). IsTaker entries (if v then [] else all) (record r { chain = r.chain ++ c ∷ [] }) next) (sym early) (record {
        stretch = stretch_open entries begun s c next early p.stretch k;
        rest = step_rest entries all s c next (inr (last_own begun c)) k;
        chain = λ h. ap (λ l. l ++ c ∷ []) chain;
        gone = λ h. absurd (cc (sym reading ∙ h));
        cause = λ h. absurd (cc (sym reading ∙ h));
        spent = λ h. absurd (cc (sym reading ∙ h));
      });
      adds = adds_nothing all entries entries refl;
    })))))

-- the test of a chain that a last cell ended
pub taker_tests : (notes : Journal) (begun : List Cell) (s : List Cell) (c : Cell) (next : List Cell) → c.header.last ≡ true → Stretch notes.entries begun s → Step notes.entries s c next
    → Adds (begun ++ c ∷ []) notes.entries (tested notes (begun ++ c ∷ [])).notes.entries
taker_tests notes begun s c next last h k =
    let all : List Cell = begun ++ c ∷ [] in
    let by : (o : Option (List ℕ)) → payload_in (octets_of all) ≡ o → Adds all notes.entries (tested_by notes all o).notes.entries = λ o eo.
    elim o as (λ v. payload_in (octets_of all) ≡ v → Adds all notes.entries (tested_by notes all v).notes.entries) [
      | None ↦ λ refused. elim (stretch_fails notes.entries begun s c next last refused h k) [
        | inl e ↦ adds_broken all (marks_of all) notes e (own_marks all)
        | inr entered ↦ adds_nothing all notes.entries _ (broken_none (marks_of all) notes (marks_all (λ mark. has_entry notes.entries mark ≡ true) all entered))
      ]
      | Some payload ↦ λ passes. if_cases (λ (n : Journal). Adds all notes.entries n.entries) (is_frame notes.frames (last_mark all) payload) notes (noted notes (Chance (last_mark all)))
          (λ e. adds_nothing all notes.entries notes.entries refl) (λ e. adds_nothing all notes.entries _ (append-nil notes.entries))
    ] eo in
    by (payload_in (octets_of all)) refl

-- a cut
cut_of : Mark → Entry
cut_of mark = record { mark = mark; cause = Cut }

pub noted_cuts : (notes : Journal) (marks : List Mark) → (noted_all notes (map (λ mark. Loss mark Cut) marks)).entries ≡ notes.entries ++ map (λ mark. record { mark = mark; cause = Cut }) marks
noted_cuts notes [] = sym (append-nil notes.entries)
noted_cuts notes (mark ∷ marks) = noted_cuts (noted notes (Loss mark Cut)) marks ∙ append_assoc notes.entries (record { mark = mark; cause = Cut } ∷ []) (map (λ m. record { mark = m; cause = Cut }) marks)

abbrev is_of : Mark → Mark → Bool
is_of m x = same_mark x m

keeps_any : (first m : Mark) (xs : List Mark) → same_mark first m ≡ false → list_any (is_of m) xs ≡ true → list_any (is_of m) (filter (λ other. not (same_mark first other)) xs) ≡ true
keeps_any first m [] apart e = absurd (cc e)
keeps_any first m (x ∷ xs) apart e =
    let rest : list_any (is_of m) xs ≡ true → list_any (is_of m) (filter (λ other. not (same_mark first other)) (x ∷ xs)) ≡ true = λ h.
    if_cases (λ (l : List Mark). list_any (is_of m) l ≡ true) (not (same_mark first x)) (x ∷ filter (λ other. not (same_mark first other)) xs) (filter (λ other. not (same_mark first other)) xs)
    (λ k. any_back (is_of m) (x ∷ []) (filter (λ other. not (same_mark first other)) xs) (keeps_any first m xs apart h))
    (λ k. keeps_any first m xs apart h) in
    let by : (b : Bool) → same_mark x m ≡ b → list_any (is_of m) (filter (λ other. not (same_mark first other)) (x ∷ xs)) ≡ true = λ b eb.
    elim b as (λ v. same_mark x m ≡ v → list_any (is_of m) (filter (λ other. not (same_mark first other)) (x ∷ xs)) ≡ true) [
      | true ↦ λ h. (
          let same : x ≡ m = (same_mark-Decides x m).0 h in
          let kept : not (same_mark first x) ≡ true = ap (λ y. not (same_mark first y)) same ∙ ap not apart in
          subst (λ (v : Bool). list_any (is_of m) (if v then x ∷ filter (λ other. not (same_mark first other)) xs else filter (λ other. not (same_mark first other)) xs) ≡ true) (sym kept)
          (any_front (is_of m) (x ∷ []) (filter (λ other. not (same_mark first other)) xs) (rw h refl)))
      | false ↦ λ h. rest (let r : list_any (is_of m) xs ≡ true = rw h at e in r)
    ] eb in
    by (same_mark x m) refl

any_distinct : (m : Mark) (marks : List Mark) → list_any (is_of m) marks ≡ true → list_any (is_of m) (distinct marks) ≡ true
any_distinct m [] e = absurd (cc e)
any_distinct m (mark ∷ marks) e =
    let by : (b : Bool) → same_mark mark m ≡ b → list_any (is_of m) (distinct (mark ∷ marks)) ≡ true = λ b eb.
    elim b as (λ v. same_mark mark m ≡ v → list_any (is_of m) (distinct (mark ∷ marks)) ≡ true) [
      | true ↦ λ h. any_front (is_of m) (mark ∷ []) (filter (λ other. not (same_mark mark other)) (distinct marks)) (rw h refl)
      | false ↦ λ h. (
          let r : list_any (is_of m) marks ≡ true = rw h at e in
          any_back (is_of m) (mark ∷ []) (filter (λ other. not (same_mark mark other)) (distinct marks)) (keeps_any mark m (distinct marks) h (any_distinct m marks r)))
    ] eb in
    by (same_mark mark m) refl

any_marks : (m : Mark) (cells : List Cell) → has_mark cells m ≡ true → list_any (is_of m) (marks_of cells) ≡ true
any_marks m [] e = e
any_marks m (c ∷ cells) e =
    let by : (b : Bool) → same_mark c.mark m ≡ b → list_any (is_of m) (marks_of (c ∷ cells)) ≡ true = λ b eb.
    elim b as (λ v. same_mark c.mark m ≡ v → list_any (is_of m) (marks_of (c ∷ cells)) ≡ true) [
      | true ↦ λ h. rw h refl
      | false ↦ λ h. (let r : has_mark cells m ≡ true = rw h at e in rw h (any_marks m cells r))
    ] eb in
    by (same_mark c.mark m) refl

cuts_are : (m : Mark) (marks : List Mark) → list_any (is_of m) marks ≡ true → list_any (is_cause_of m) (map (λ mark. record { mark = mark; cause = Cut }) marks) ≡ true
cuts_are m [] e = e
cuts_are m (x ∷ marks) e =
    let by : (b : Bool) → same_mark x m ≡ b → list_any (is_cause_of m) (map (λ mark. record { mark = mark; cause = Cut }) (x ∷ marks)) ≡ true = λ b eb.
    elim b as (λ v. same_mark x m ≡ v → list_any (is_cause_of m) (map (λ mark. record { mark = mark; cause = Cut }) (x ∷ marks)) ≡ true) [
      | true ↦ λ h. rw h refl
      | false ↦ λ h. (let r : list_any (is_of m) marks ≡ true = rw h at e in rw h (cuts_are m marks r))
    ] eb in
    by (same_mark x m) refl

pub cut_has_cause : (notes : Journal) (r : Reassembly) (m : Mark) → has_mark r.chain m ≡ true → has_cause (cut notes r).entries m ≡ true
cut_has_cause notes r m e =
    subst (λ (l : List Entry). has_cause l m ≡ true) (sym (noted_cuts notes (distinct (marks_of r.chain))))
    (any_back (is_cause_of m) notes.entries (map (λ mark. record { mark = mark; cause = Cut }) (distinct (marks_of r.chain))) (cuts_are m (distinct (marks_of r.chain)) (any_distinct m (marks_of r.chain) (any_marks m r.chain e))))

-- behind a cut
pub begins_anew : (entries : List Entry) (s : List Cell) → Rest entries [] s → IsTaker entries [] nothing_taken s
begins_anew entries s rest =
    record {
      stretch = elim rest [
        | inl t ↦ free refl t
        | inr r ↦ within r.passed r.x r.rest r.is r.whole (elim r.why [ inl e ↦ inr e | inr h ↦ absurd (cc h) ])
      ];
      rest = rest;
      chain = λ e. refl;
      gone = λ e. refl;
      cause = λ e. absurd (cc e);
      spent = λ e. absurd (cc e);
    }

run_cut : (entries new : List Entry) (more : List Entry) (begun s : List Cell) → new ≡ entries ++ more → ((m : Mark) → has_mark begun m ≡ true → has_cause new m ≡ true) → Rest entries begun s → Rest new [] s
run_cut entries new more begun s is cuts (inl t) = inl (subst (λ (l : List Entry). IsTorn l s) (sym is) (torn_kept entries more s t))
run_cut entries new more begun s is cuts (inr r) =
    elim r.why [
      | inl e ↦ inr (record { passed = r.passed; x = r.x; rest = r.rest; is = r.is; whole = r.whole; why = inl (subst (λ (l : List Entry). has_entry l r.x.mark ≡ true) (sym is) (entry_kept entries more r.x.mark e)) })
      | inr h ↦ (
          let here : has_cause new r.x.mark ≡ true = cuts r.x.mark h in
          inl (subst (IsTorn new) (sym r.is) (here, torn_by new r.x.mark r.rest here (marks_behind r.passed r.x r.rest r.whole))))
    ]

pub taker_cut : (notes : Journal) (begun : List Cell) (r : Reassembly) (s : List Cell) → IsTaker notes.entries begun r s → IsTaker (cut notes r).entries [] nothing_taken s
taker_cut notes begun r s p =
    let more : List Entry = map (λ mark. record { mark = mark; cause = Cut }) (distinct (marks_of r.chain)) in
    let is : (cut notes r).entries ≡ notes.entries ++ more = noted_cuts notes (distinct (marks_of r.chain)) in
    let by : (b : Bool) → r.is_skipping ≡ b → Rest (cut notes r).entries [] s = λ b eb.
    elim b as (λ v. r.is_skipping ≡ v → Rest (cut notes r).entries [] s) [
      | true ↦ λ e. run_cut notes.entries (cut notes r).entries more [] s is (λ m h. absurd (cc h)) (p.spent e)
      | false ↦ λ e. run_cut notes.entries (cut notes r).entries more begun s is
          (λ m h. cut_has_cause notes r m (subst (λ (l : List Cell). has_mark l m ≡ true) (sym (p.chain e)) h)) p.rest
    ] eb in
    begins_anew (cut notes r).entries s (by r.is_skipping refl)

pub cut_grows : (notes : Journal) (r : Reassembly) → (more : List Entry) × ((cut notes r).entries ≡ notes.entries ++ more) × Every (λ (e : Entry). e.cause ≡ Cut) more
cut_grows notes r = (map (λ mark. record { mark = mark; cause = Cut }) (distinct (marks_of r.chain)), noted_cuts notes (distinct (marks_of r.chain)), all_cut (distinct (marks_of r.chain)))
  where
    all_cut : (marks : List Mark) → Every (λ (e : Entry). e.cause ≡ Cut) (map (λ mark. record { mark = mark; cause = Cut }) marks)
    all_cut [] = tt
    all_cut (mark ∷ marks) = (refl, all_cut marks)

-- entries of other causes than Broken
pub adds_others : (stretch : List Cell) (old more : List Entry) → Every (λ (e : Entry). e.cause ≢ Broken) more → Adds stretch old (old ++ more)
adds_others stretch old more none = record { more = more; is = refl; each = beside old more none }
  where
    beside : (old more : List Entry) → Every (λ (e : Entry). e.cause ≢ Broken) more → Beside stretch old more
    beside old [] none = tt
    beside old (e ∷ more) none = ((λ b. absurd (none.0 b)), beside (old ++ e ∷ []) more none.1)
