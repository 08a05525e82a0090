-- no record is `Bad` of those that are noted where frames are sent, cut, taken and tested

use Rattle.std.proofs.Common.{◌≡◌, ℕ, Bool, true, false, not, List, [], ◌∷◌, ◌++◌, length, map, Option, None, Some, refl, subst}
use Rattle.std.specs.Prelude.{◌||◌, nat_le}
use Rattle.std.specs.List.{list_any}
use Rattle.world_model.specs.Words.{Mark, Cell, Record, Loss, Chance, PoolFull, Cut, Broken, has_entry, is_frame, Journal, noted, last_mark, tested_by, Reassembly, most_cells, marks_of, broken, distinct, noted_all, cut, passed_over, without_slot, too_long, is_bad}
use Rattle.world_model.specs.frame_model.Reassembly.{Taken, cell_joined, taken}
use Rattle.law_frame_readings.specs.ordered_lists.Ordered.{Every}
use Rattle.law_frame_readings.proofs.law_port_facts.Keyed.{on_both, on_each, every_more}
use Rattle.law_run_facts.proofs.Taking.{IsByLast}

-- *No record is `Bad`*
abbrev pub IsFair : Record → Type 0
IsFair item = is_bad item ≡ false

abbrev pub AreFair : Journal → Type 0
AreFair notes = Every IsFair notes.records

pub note_fair : (notes : Journal) (item : Record) → IsFair item → AreFair notes → AreFair (noted notes item)
note_fair notes item fair h = every_more IsFair notes.records item h fair

pub none_bad : (items : List Record) → Every IsFair items → list_any is_bad items ≡ false
none_bad [] all = refl
none_bad (item ∷ items) all = neither (is_bad item) (list_any is_bad items) all.0 (none_bad items all.1)
  where
    neither : (a b : Bool) → a ≡ false → b ≡ false → (a || b) ≡ false
    neither true b e f = e
    neither false b e f = f

-- *Losses*
broken_fair : (marks : List Mark) (notes : Journal) → AreFair notes → AreFair (broken notes marks)
broken_fair [] notes h = h
broken_fair (mark ∷ marks) notes h = on_both (λ (n : Journal). AreFair (broken n marks)) (has_entry notes.entries mark) notes (noted notes (Loss mark Broken))
    (broken_fair marks notes h) (broken_fair marks (noted notes (Loss mark Broken)) (note_fair notes (Loss mark Broken) refl h))

marks_fair : (marks : List Mark) (notes : Journal) → AreFair notes → AreFair (noted_all notes (map (λ mark. Loss mark Cut) marks))
marks_fair [] notes h = h
marks_fair (mark ∷ marks) notes h = marks_fair marks (noted notes (Loss mark Cut)) (note_fair notes (Loss mark Cut) refl h)

pub cut_fair : (notes : Journal) (r : Reassembly) → AreFair notes → AreFair (cut notes r)
cut_fair notes r h = marks_fair (distinct (marks_of r.chain)) notes h

-- *A cell is taken*
pub taken_fair : (notes : Journal) (slot : Bool) (r : Reassembly) (cell : Cell) → AreFair notes → AreFair (taken notes slot r cell).notes
taken_fair notes slot r cell h = on_both Is r.is_skipping (passed_over notes r cell) _ (broken_fair (cell.mark ∷ []) notes h)
    (on_both Is (not slot) (without_slot notes r cell) _ (broken_fair (marks_of r.chain) (noted notes (Loss cell.mark PoolFull)) (note_fair notes (Loss cell.mark PoolFull) refl h))
    (on_both Is (nat_le most_cells (length r.chain)) (too_long notes r cell) (cell_joined notes r cell) (broken_fair (marks_of (r.chain ++ cell ∷ [])) notes h)
    (on_both Is cell.header.last (record { reassembly = record r { chain = [] }; notes = notes; ended = r.chain ++ cell ∷ [] }) (record { reassembly = record r { chain = r.chain ++ cell ∷ [] }; notes = notes; ended = [] }) h h)))
  where
    Is : Taken → Type 0
    Is t = AreFair t.notes

-- *A chain is tested*
pub tested_fair : (notes : Journal) (cells : List Cell) (o : Option (List ℕ)) → AreFair notes → AreFair (tested_by notes cells o).notes
tested_fair notes cells None h = broken_fair (marks_of cells) notes h
tested_fair notes cells (Some payload) h = on_both AreFair (is_frame notes.frames (last_mark cells) payload) notes (noted notes (Chance (last_mark cells))) h
    (note_fair notes (Chance (last_mark cells)) refl h)

-- *A chain is ended* by a last cell
pub ended_by_last : (notes : Journal) (slot : Bool) (r : Reassembly) (cell first : Cell) (chain : List Cell) → (taken notes slot r cell).ended ≡ first ∷ chain → cell.header.last ≡ true
ended_by_last notes slot r cell first chain e = subst (IsByLast cell) e each
  where
    Is : Taken → Type 0
    Is t = IsByLast cell t.ended

    any : (cells : List Cell) → cell.header.last ≡ true → IsByLast cell cells
    any [] last = tt
    any (x ∷ xs) last = last

    each : IsByLast cell (taken notes slot r cell).ended
    each = on_both Is r.is_skipping (passed_over notes r cell) _ tt (on_both Is (not slot) (without_slot notes r cell) _ tt
        (on_both Is (nat_le most_cells (length r.chain)) (too_long notes r cell) (cell_joined notes r cell) tt
        (on_each Is cell.header.last (record { reassembly = record r { chain = [] }; notes = notes; ended = r.chain ++ cell ∷ [] }) (record { reassembly = record r { chain = r.chain ++ cell ∷ [] }; notes = notes; ended = [] })
        (λ last. any (r.chain ++ cell ∷ []) last) (λ early. tt))))
