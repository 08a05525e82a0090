-- what is entered of chains is no loss of a cell on its way, but where a chain has no slot for one

use Rattle.std.proofs.Common.{◌≡◌, ℕ, List, [], ◌∷◌, ◌++◌, map, filter, length, append-nil, append_assoc, Option, None, Some, refl, sym, ◌∙◌, ap, subst, if◌then◌else◌}
use Rattle.std.proofs.Common.{true≢false, arith}
use Rattle.std.specs.Prelude.{not, nat_le, Bool, true, false, ◌||◌}
use Rattle.std.proofs.lemmas.Bool.Decides.{nat_tests}
use Rattle.std.proofs.lemmas.List.Elements.{filter-append}
use Rattle.world_model.specs.Words.{Mark, Cell, Entry, Record, Loss, Chance, PoolFull, Broken, Cut, Cause, same_mark, has_entry, is_frame, Journal, losses_of, noted, made, tested, tested_by, last_mark, payload_in, Reassembly, passed_over, without_slot, too_long, most_cells, broken, marks_of, distinct, noted_all, cut}
use Rattle.world_model.specs.link_model.declared.record.Record.TheVariants as kinds
use Rattle.world_model.specs.frame_model.Frame.{octets_of}
use Rattle.world_model.specs.frame_model.Reassembly.{Taken, taken, cell_joined}
use Rattle.law_causes.proofs.law_port_facts.Keyed.{on_both}
use Rattle.law_true_losses.specs.Way.{is_on_way, entry_unless}
use Rattle.law_true_losses.specs.Losses.{HasNone, AreFirst}

-- *The losses of more records* are those of the one and of the others
pub losses_more : (items others : List Record) → losses_of (items ++ others) ≡ losses_of items ++ losses_of others
losses_more [] others = refl
losses_more (kinds.Loss mark cause ∷ items) others = ap (λ (entries : List Entry). record { mark = mark; cause = cause } ∷ entries) (losses_more items others)
losses_more (kinds.Delivered node packet octets ∷ items) others = losses_more items others
losses_more (kinds.Dropped node packet cause ∷ items) others = losses_more items others
losses_more (kinds.Refused node packet name ∷ items) others = losses_more items others
losses_more (kinds.Chance mark ∷ items) others = losses_more items others
losses_more (kinds.Bad node layer name ∷ items) others = losses_more items others
losses_more (kinds.Opened node port ∷ items) others = losses_more items others
losses_more (kinds.Closed node port ∷ items) others = losses_more items others
losses_more (kinds.Bind node port label flow ∷ items) others = losses_more items others
losses_more (kinds.Free node port label ∷ items) others = losses_more items others
losses_more (kinds.Join node port label to_port to_label ∷ items) others = losses_more items others
losses_more (kinds.Part node port label ∷ items) others = losses_more items others
losses_more (kinds.Forged place ∷ items) others = losses_more items others
losses_more (kinds.Routes node number ∷ items) others = losses_more items others

-- *A record of something else* than a loss
abbrev pub IsOther : Record → Type 0
IsOther item = losses_of (item ∷ []) ≡ []

-- or of a loss of another kind, which isn't Broken
abbrev is_broken : Cause → Bool
is_broken Broken = true
is_broken cause = false

abbrev is_of_broken : Entry → Bool
is_of_broken entry = is_broken entry.cause

abbrev pub IsUnbroken : Record → Type 0
IsUnbroken item = filter is_of_broken (losses_of (item ∷ [])) ≡ []

abbrev pub IsElsewhere : Record → Type 0
IsElsewhere item = (filter is_on_way (losses_of (item ∷ [])) ≡ []) × IsUnbroken item

pub other_elsewhere : (item : Record) → IsOther item → IsElsewhere item
other_elsewhere item other = (ap (filter is_on_way) other, ap (filter is_of_broken) other)

-- *More entries*: each that is Broken is still the first of its mark
pub first_more : (earlier entries more : List Entry) → AreFirst earlier entries → AreFirst (earlier ++ entries) more → AreFirst earlier (entries ++ more)
first_more earlier [] more h rest = subst (λ (all : List Entry). AreFirst all more) (append-nil earlier) rest
first_more earlier (entry ∷ entries) more h rest =
    (h.0, first_more (earlier ++ entry ∷ []) entries more h.1 (subst (λ (all : List Entry). AreFirst all more) (sym (append_assoc earlier (entry ∷ []) entries)) rest))

unbroken_one : (mark : Mark) (cause : Cause) (earlier : List Entry) → filter is_of_broken (record { mark = mark; cause = cause } ∷ []) ≡ [] → cause ≡ Broken → HasNone earlier mark
unbroken_one mark cause earlier none is = (let some : record { mark = mark; cause = Broken } ∷ [] ≡ [] = subst (λ (c : Cause). filter is_of_broken (record { mark = mark; cause = c } ∷ []) ≡ []) is none in absurd (cc some))

unbroken_first : (earlier : List Entry) (item : Record) → IsUnbroken item → AreFirst earlier (losses_of (item ∷ []))
unbroken_first earlier (kinds.Loss mark cause) none = (unbroken_one mark cause earlier none, tt)
unbroken_first earlier (kinds.Delivered node packet octets) none = tt
unbroken_first earlier (kinds.Dropped node packet cause) none = tt
unbroken_first earlier (kinds.Refused node packet name) none = tt
unbroken_first earlier (kinds.Chance mark) none = tt
unbroken_first earlier (kinds.Bad node layer name) none = tt
unbroken_first earlier (kinds.Opened node port) none = tt
unbroken_first earlier (kinds.Closed node port) none = tt
unbroken_first earlier (kinds.Bind node port label flow) none = tt
unbroken_first earlier (kinds.Free node port label) none = tt
unbroken_first earlier (kinds.Join node port label to_port to_label) none = tt
unbroken_first earlier (kinds.Part node port label) none = tt
unbroken_first earlier (kinds.Forged place) none = tt
unbroken_first earlier (kinds.Routes node number) none = tt

-- a mark that has no entry
test_own : (mark : Mark) → same_mark mark mark ≡ true
test_own mark = grind (arith, nat_tests)

none_yet : (entries : List Entry) (mark : Mark) → has_entry entries mark ≡ false → HasNone entries mark
none_yet [] mark none = tt
none_yet (entry ∷ entries) mark none = by (same_mark entry.mark mark) refl none (none_yet entries mark)
  where
    by : (b : Bool) → same_mark entry.mark mark ≡ b → (b || has_entry entries mark) ≡ false → (has_entry entries mark ≡ false → HasNone entries mark) → HasNone (entry ∷ entries) mark
    by true t e rest = absurd (cc e)
    by false t e rest = (λ same. absurd (true≢false (sym (test_own mark) ∙ subst (λ (m : Mark). same_mark m mark ≡ false) same t)), rest e)

-- *Notes that began with a ledger*: it has grown by the losses of the records, and of those on their way these are told; what
-- is Broken is the first entry of its mark
pub record Counts (ledger told : List Entry) (notes : Journal) : Type 0 where
  pub entered : notes.entries ≡ ledger ++ losses_of notes.records
  pub on_way : filter is_on_way (losses_of notes.records) ≡ told
  pub first : AreFirst [] notes.entries

module _ (e x : List Entry) where
  entered_more : (notes : Journal) (item : Record) (more : List Entry) → filter is_on_way (losses_of (item ∷ [])) ≡ more → AreFirst notes.entries (losses_of (item ∷ []))
      → Counts e x notes → Counts e (x ++ more) (noted notes item)
  entered_more notes item more is first h = record {
    entered = ap (λ (entries : List Entry). entries ++ losses_of (item ∷ [])) h.entered
        ∙ append_assoc e (losses_of notes.records) (losses_of (item ∷ []))
        ∙ ap (λ (entries : List Entry). e ++ entries) (sym (losses_more notes.records (item ∷ [])));
    on_way = ap (filter is_on_way) (losses_more notes.records (item ∷ []))
        ∙ filter-append is_on_way (losses_of notes.records) (losses_of (item ∷ []))
        ∙ ap (λ (entries : List Entry). entries ++ filter is_on_way (losses_of (item ∷ []))) h.on_way
        ∙ ap (λ (entries : List Entry). x ++ entries) is;
    first = first_more [] notes.entries (losses_of (item ∷ [])) h.first first;
  }

  pub noted_more : (notes : Journal) (item : Record) (more : List Entry) → filter is_on_way (losses_of (item ∷ [])) ≡ more → IsUnbroken item → Counts e x notes → Counts e (x ++ more) (noted notes item)
  noted_more notes item more is unbroken h = entered_more notes item more is (unbroken_first notes.entries item unbroken) h

  pub noted_other : (notes : Journal) (item : Record) → IsElsewhere item → Counts e x notes → Counts e x (noted notes item)
  noted_other notes item other h = subst (λ (told : List Entry). Counts e told (noted notes item)) (append-nil x) (noted_more notes item [] other.0 other.1 h)

  -- Broken is entered for a mark that has no entry yet
  noted_broken : (notes : Journal) (mark : Mark) → has_entry notes.entries mark ≡ false → Counts e x notes → Counts e x (noted notes (Loss mark Broken))
  noted_broken notes mark none h = subst (λ (told : List Entry). Counts e told (noted notes (Loss mark Broken))) (append-nil x)
      (entered_more notes (Loss mark Broken) [] refl (λ is. none_yet notes.entries mark none, tt) h)

  pub made_kept : (notes : Journal) (mark : Mark) (payload : List ℕ) → Counts e x notes → Counts e x (made notes mark payload)
  made_kept notes mark payload h = record { entered = h.entered; on_way = h.on_way; first = h.first }

  -- *Chains of cells* that are cut, broken, or go on
  pub cut_all : (notes : Journal) (marks : List Mark) → Counts e x notes → Counts e x (noted_all notes (map (λ (mark : Mark). Loss mark Cut) marks))
  cut_all notes [] h = h
  cut_all notes (mark ∷ marks) h = cut_all (noted notes (Loss mark Cut)) marks (noted_other notes (Loss mark Cut) (refl, refl) h)

  pub cut_kept : (notes : Journal) (r : Reassembly) → Counts e x notes → Counts e x (cut notes r)
  cut_kept notes r h = cut_all notes (distinct (marks_of r.chain)) h

-- *No frame is made* where chains are cut, broken, or tested, or go on
all_frames : (notes : Journal) (items : List Record) → (noted_all notes items).frames ≡ notes.frames
all_frames notes [] = refl
all_frames notes (item ∷ items) = all_frames (noted notes item) items

pub cut_frames : (notes : Journal) (r : Reassembly) → (cut notes r).frames ≡ notes.frames
cut_frames notes r = all_frames notes (map (λ (mark : Mark). Loss mark Cut) (distinct (marks_of r.chain)))

-- *What is so of notes* stays so where chains are broken or tested, or take cells, if it stays so with each entry of these
module _ (K : Journal → Type 0) (breaks : (notes : Journal) (mark : Mark) → has_entry notes.entries mark ≡ false → K notes → K (noted notes (Loss mark Broken))) where
  pub broken_each : (notes : Journal) (marks : List Mark) → K notes → K (broken notes marks)
  broken_each notes [] h = h
  broken_each notes (mark ∷ marks) h = broken_each (if has_entry notes.entries mark then notes else noted notes (Loss mark Broken)) marks (by (has_entry notes.entries mark) refl)
    where
      by : (b : Bool) → has_entry notes.entries mark ≡ b → K (if b then notes else noted notes (Loss mark Broken))
      by true some = h
      by false none = breaks notes mark none h

  pub tested_each : ((notes : Journal) (mark : Mark) → K notes → K (noted notes (Chance mark))) → (notes : Journal) (cells : List Cell) → K notes → K (tested notes cells).notes
  tested_each passes notes cells h = by_payload (payload_in (octets_of cells))
    where
      by_payload : (o : Option (List ℕ)) → K (tested_by notes cells o).notes
      by_payload None = broken_each notes (marks_of cells) h
      by_payload (Some payload) = on_both K (is_frame notes.frames (last_mark cells) payload) notes (noted notes (Chance (last_mark cells))) h (passes notes (last_mark cells) h)

  pub taken_each : ((notes : Journal) (mark : Mark) → K notes → K (noted notes (Loss mark PoolFull))) → (notes : Journal) (has_slot : Bool) (r : Reassembly) (cell : Cell) → K notes → K (taken notes has_slot r cell).notes
  taken_each fills notes has_slot r cell h = on_both On r.is_skipping (passed_over notes r cell) _ (broken_each notes (cell.mark ∷ []) h)
      (on_both On (not has_slot) (without_slot notes r cell) _ (broken_each (noted notes (Loss cell.mark PoolFull)) (marks_of r.chain) (fills notes cell.mark h))
      (on_both On (nat_le most_cells (length r.chain)) (too_long notes r cell) (cell_joined notes r cell) (broken_each notes (marks_of (r.chain ++ cell ∷ [])) h)
      (on_both On cell.header.last (record { reassembly = record r { chain = [] }; notes = notes; ended = r.chain ++ cell ∷ [] }) (record { reassembly = record r { chain = r.chain ++ cell ∷ [] }; notes = notes; ended = [] }) h h)))
    where
      On : Taken → Type 0
      On t = K t.notes

module _ (e x : List Entry) where
  pub broken_kept : (notes : Journal) (marks : List Mark) → Counts e x notes → Counts e x (broken notes marks)
  broken_kept = broken_each (Counts e x) (noted_broken e x)

  pub tested_kept : (notes : Journal) (cells : List Cell) → Counts e x notes → Counts e x (tested notes cells).notes
  tested_kept = tested_each (Counts e x) (noted_broken e x) (λ notes mark. noted_other e x notes (Chance mark) (refl, refl))

pub tested_frames : (notes : Journal) (cells : List Cell) → (tested notes cells).notes.frames ≡ notes.frames
tested_frames notes cells = tested_each (λ (more : Journal). more.frames ≡ notes.frames) (λ more mark none h. h) (λ more mark h. h) notes cells refl

pub taken_frames : (notes : Journal) (has_slot : Bool) (r : Reassembly) (cell : Cell) → (taken notes has_slot r cell).notes.frames ≡ notes.frames
taken_frames notes has_slot r cell = taken_each (λ (more : Journal). more.frames ≡ notes.frames) (λ more mark none h. h) (λ more mark h. h) notes has_slot r cell refl

-- *A cell comes to a chain*
pub taken_told : (e : List Entry) (notes : Journal) (has_slot : Bool) (r : Reassembly) (cell : Cell) → Counts e [] notes
    → Counts e (entry_unless (r.is_skipping || has_slot) cell.mark PoolFull) (taken notes has_slot r cell).notes
taken_told e notes has_slot r cell h = by_skipping r.is_skipping
  where
    goes_on : Taken
    goes_on = if nat_le most_cells (length r.chain) then too_long notes r cell else cell_joined notes r cell

    joins : Counts e [] goes_on.notes
    joins = on_both (λ (t : Taken). Counts e [] t.notes) (nat_le most_cells (length r.chain)) (too_long notes r cell) (cell_joined notes r cell)
        (broken_kept e [] notes (marks_of (r.chain ++ cell ∷ [])) h)
        (on_both (λ (t : Taken). Counts e [] t.notes) cell.header.last (record { reassembly = record r { chain = [] }; notes = notes; ended = r.chain ++ cell ∷ [] })
        (record { reassembly = record r { chain = r.chain ++ cell ∷ [] }; notes = notes; ended = [] }) h h)

    by_slot : (b : Bool) → Counts e (entry_unless b cell.mark PoolFull) (if not b then without_slot notes r cell else goes_on).notes
    by_slot true = joins
    by_slot false = broken_kept e (record { mark = cell.mark; cause = PoolFull } ∷ []) (noted notes (Loss cell.mark PoolFull)) (marks_of r.chain)
        (noted_more e [] notes (Loss cell.mark PoolFull) (record { mark = cell.mark; cause = PoolFull } ∷ []) refl refl h)

    by_skipping : (b : Bool) → Counts e (entry_unless (b || has_slot) cell.mark PoolFull) (if b then passed_over notes r cell else (if not has_slot then without_slot notes r cell else goes_on)).notes
    by_skipping true = broken_kept e [] notes (cell.mark ∷ []) h
    by_skipping false = by_slot has_slot
