-- what is recorded of cells and of frames says nothing of a change of routes

use Rattle.std.proofs.Common.{◌≡◌, ℕ, List, [], ◌∷◌, ◌++◌, map, length, append-nil, Option, None, Some, refl, ◌∙◌, ap, if◌then◌else◌}
use Rattle.std.specs.Prelude.{not, nat_le}
use Rattle.std.specs.List.{cons_option}
use Rattle.std.proofs.lemmas.List.Elements.{filter_map-append}
use Rattle.world_model.specs.Words.{NodeId, Mark, Cell, Record, Loss, Chance, PoolFull, Broken, Cut, has_entry, is_frame, Journal, noted, made, tested, tested_by, last_mark, payload_in, Reassembly, passed_over, without_slot, too_long, most_cells, broken, marks_of, distinct, noted_all, cut}
use Rattle.world_model.specs.frame_model.Frame.{octets_of}
use Rattle.world_model.specs.frame_model.Reassembly.{Taken, taken, cell_joined}
use Rattle.law_causes.proofs.law_port_facts.Keyed.{on_both}
use Rattle.law_told_tables.specs.Tables.{number_told, numbers_told}

-- *A record of something else* than a change
abbrev pub IsOther : Record → Type 0
IsOther item = (node : NodeId) → number_told node item ≡ None

-- *The same changes* are recorded in both
abbrev pub TellsAlike : (before after : Journal) → Type 0
TellsAlike before after = (node : NodeId) → numbers_told node after.records ≡ numbers_told node before.records

pub alike_then : (a b c : Journal) → TellsAlike a b → TellsAlike b c → TellsAlike a c
alike_then a b c f g node = g node ∙ f node

pub noted_alike : (notes : Journal) (item : Record) → IsOther item → TellsAlike notes (noted notes item)
noted_alike notes item other node = filter_map-append (number_told node) notes.records (item ∷ [])
    ∙ ap (λ (o : Option ℕ). numbers_told node notes.records ++ cons_option o []) (other node) ∙ append-nil (numbers_told node notes.records)

-- *Chains of cells* that are cut, broken, or go on
all_alike : (notes : Journal) (marks : List Mark) → TellsAlike notes (noted_all notes (map (λ (mark : Mark). Loss mark Cut) marks))
all_alike notes [] = λ node. refl
all_alike notes (mark ∷ marks) =
    alike_then notes (noted notes (Loss mark Cut)) (noted_all notes (map (λ (m : Mark). Loss m Cut) (mark ∷ marks))) (noted_alike notes (Loss mark Cut) (λ node. refl)) (all_alike (noted notes (Loss mark Cut)) marks)

pub cut_alike : (notes : Journal) (r : Reassembly) → TellsAlike notes (cut notes r)
cut_alike notes r = all_alike notes (distinct (marks_of r.chain))

broken_alike : (notes : Journal) (marks : List Mark) → TellsAlike notes (broken notes marks)
broken_alike notes [] = λ node. refl
broken_alike notes (mark ∷ marks) =
    let next : Journal = if has_entry notes.entries mark then notes else noted notes (Loss mark Broken) in
    alike_then notes next (broken notes (mark ∷ marks))
    (on_both (TellsAlike notes) (has_entry notes.entries mark) notes (noted notes (Loss mark Broken)) (λ node. refl) (noted_alike notes (Loss mark Broken) (λ node. refl)))
    (broken_alike next marks)

pub taken_alike : (notes : Journal) (has_slot : _) (r : Reassembly) (cell : Cell) → TellsAlike notes (taken notes has_slot r cell).notes
taken_alike notes has_slot r cell = on_both Alike r.is_skipping (passed_over notes r cell) _ (broken_alike notes (cell.mark ∷ []))
    (on_both Alike (not has_slot) (without_slot notes r cell) _
    (alike_then notes (noted notes (Loss cell.mark PoolFull)) (without_slot notes r cell).notes (noted_alike notes (Loss cell.mark PoolFull) (λ node. refl)) (broken_alike (noted notes (Loss cell.mark PoolFull)) (marks_of r.chain)))
    (on_both Alike (nat_le most_cells (length r.chain)) (too_long notes r cell) (cell_joined notes r cell) (broken_alike notes (marks_of (r.chain ++ cell ∷ [])))
    (on_both Alike cell.header.last (record { reassembly = record r { chain = [] }; notes = notes; ended = r.chain ++ cell ∷ [] }) (record { reassembly = record r { chain = r.chain ++ cell ∷ [] }; notes = notes; ended = [] })
    (λ node. refl) (λ node. refl))))
  where
    Alike : Taken → Type 0
    Alike t = TellsAlike notes t.notes

pub tested_alike : (notes : Journal) (cells : List Cell) → TellsAlike notes (tested notes cells).notes
tested_alike notes cells = by_payload (payload_in (octets_of cells))
  where
    by_payload : (o : Option (List ℕ)) → TellsAlike notes (tested_by notes cells o).notes
    by_payload None = broken_alike notes (marks_of cells)
    by_payload (Some payload) = on_both (TellsAlike notes) (is_frame notes.frames (last_mark cells) payload) notes (noted notes (Chance (last_mark cells)))
        (λ node. refl) (noted_alike notes (Chance (last_mark cells)) (λ node. refl))

-- *A frame* that finds no room
pub full_alike : (notes : Journal) (mark : Mark) (payload : List ℕ) → TellsAlike notes (noted (made notes mark payload) (Loss mark PoolFull))
full_alike notes mark payload = noted_alike (made notes mark payload) (Loss mark PoolFull) (λ node. refl)
