-- what the notes show that isn't the ledger's: entries change nothing of it

use Rattle.std.proofs.Common.{◌≡◌, ℕ, Bool, true, false, not, List, [], ◌∷◌, ◌++◌, map, length, append-nil, Option, None, Some, refl, sym, ◌∙◌, ap, if◌then◌else◌}
use Rattle.std.specs.Prelude.{nat_le}
use Rattle.std.specs.List.{cons_option}
use Rattle.std.proofs.lemmas.List.Elements.{filter_map-append}
use Rattle.world_model.specs.Words.{Mark, Cell, Record, Delivered, Dropped, Refused, Loss, Chance, Bad, Opened, Closed, Bind, Free, Part, Forged, Routes, PoolFull, Broken, Cut, has_entry, is_frame, Journal, noted, tested, tested_by, last_mark, payload_in, Reassembly, passed_over, without_slot, too_long, most_cells, broken, marks_of, distinct, noted_all, cut}
use Rattle.world_model.specs.link_model.declared.record.Record.TheVariants.{Join}
use Rattle.world_model.specs.frame_model.Frame.{octets_of}
use Rattle.world_model.specs.frame_model.Reassembly.{taken}
use Rattle.law_unmarked_controllers.specs.Unmarked.{unmarked_record, unmarked_records, shown}

-- *The notes*, taken twice
shown_record : (item : Record) (others : List Record) → unmarked_records (cons_option (unmarked_record item) others) ≡ cons_option (unmarked_record item) (unmarked_records others)
shown_record (Delivered node packet octets) others = refl
shown_record (Dropped node packet cause) others = refl
shown_record (Refused node packet name) others = refl
shown_record (Loss mark cause) others = refl
shown_record (Chance mark) others = refl
shown_record (Bad node layer name) others = refl
shown_record (Opened node port) others = refl
shown_record (Closed node port) others = refl
shown_record (Bind node port label flow) others = refl
shown_record (Free node port label) others = refl
shown_record (Join node port label to_port to_label) others = refl
shown_record (Part node port label) others = refl
shown_record (Forged place) others = refl
shown_record (Routes node number) others = refl

records_twice : (records : List Record) → unmarked_records (unmarked_records records) ≡ unmarked_records records
records_twice [] = refl
records_twice (item ∷ records) = shown_record item (unmarked_records records) ∙ ap (cons_option (unmarked_record item)) (records_twice records)

pub shown_twice : (notes : Journal) → shown (shown notes) ≡ shown notes
shown_twice notes = λ i. record (shown notes) { records = records_twice notes.records i }

-- *One record more*
pub noted_same : (notes others : Journal) → shown notes ≡ shown others → (item other : Record) → unmarked_record item ≡ unmarked_record other → shown (noted notes item) ≡ shown (noted others other)
noted_same notes others e item other same = λ i. record (shown notes) {
  records = (filter_map-append unmarked_record notes.records (item ∷ []) ∙ (λ j. (e j).records ++ cons_option (same j) []) ∙ sym (filter_map-append unmarked_record others.records (other ∷ []))) i;
}

-- or an entry of the ledger
pub entered_shown : (notes : Journal) (item : Record) → unmarked_record item ≡ None → shown (noted notes item) ≡ shown notes
entered_shown notes item none = λ i. record (shown notes) {
  records = (filter_map-append unmarked_record notes.records (item ∷ []) ∙ (λ j. unmarked_records notes.records ++ cons_option (none j) []) ∙ append-nil (unmarked_records notes.records)) i;
}

broken_shown : (marks : List Mark) (notes : Journal) → shown (broken notes marks) ≡ shown notes
broken_shown [] notes = refl
broken_shown (mark ∷ marks) notes = broken_shown marks (if has_entry notes.entries mark then notes else noted notes (Loss mark Broken)) ∙ by (has_entry notes.entries mark)
  where
    by : (t : Bool) → shown (if t then notes else noted notes (Loss mark Broken)) ≡ shown notes
    by true = refl
    by false = entered_shown notes (Loss mark Broken) refl

all_shown : (marks : List Mark) (notes : Journal) → shown (noted_all notes (map (λ mark. Loss mark Cut) marks)) ≡ shown notes
all_shown [] notes = refl
all_shown (mark ∷ marks) notes = all_shown marks (noted notes (Loss mark Cut)) ∙ entered_shown notes (Loss mark Cut) refl

pub cut_shown : (notes : Journal) (r : Reassembly) → shown (cut notes r) ≡ shown notes
cut_shown notes r = all_shown (distinct (marks_of r.chain)) notes

pub tested_shown : (notes : Journal) (cells : List Cell) → shown (tested notes cells).notes ≡ shown notes
tested_shown notes cells = by (payload_in (octets_of cells))
  where
    by_frame : (t : Bool) → shown (if t then notes else noted notes (Chance (last_mark cells))) ≡ shown notes
    by_frame true = refl
    by_frame false = entered_shown notes (Chance (last_mark cells)) refl

    by : (o : Option (List ℕ)) → shown (tested_by notes cells o).notes ≡ shown notes
    by None = broken_shown (marks_of cells) notes
    by (Some payload) = by_frame (is_frame notes.frames (last_mark cells) payload)

pub taken_shown : (notes : Journal) (has_slot : Bool) (r : Reassembly) (cell : Cell) → shown (taken notes has_slot r cell).notes ≡ shown notes
taken_shown notes has_slot r cell = by r.is_skipping has_slot (nat_le most_cells (length r.chain)) cell.header.last
  where
    by : (skips slot long last : Bool)
        → shown (if skips then passed_over notes r cell else (if not slot then without_slot notes r cell else (if long then too_long notes r cell else (if last then record { reassembly = record r { chain = [] }; notes = notes; ended = r.chain ++ cell ∷ [] } else record { reassembly = record r { chain = r.chain ++ cell ∷ [] }; notes = notes; ended = [] })))).notes ≡ shown notes
    by true slot long last = broken_shown (cell.mark ∷ []) notes
    by false false long last = broken_shown (marks_of r.chain) (noted notes (Loss cell.mark PoolFull)) ∙ entered_shown notes (Loss cell.mark PoolFull) refl
    by false true true last = broken_shown (marks_of (r.chain ++ cell ∷ [])) notes
    by false true false true = refl
    by false true false false = refl
