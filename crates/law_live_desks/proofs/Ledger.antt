-- the ledger only grows where a channel takes a cell, and where a chain is tested or cut

use Rattle.std.proofs.Common.{ℕ, ◌≤◌, ◌<◌, Bool, List, [], ◌∷◌, ◌++◌, length, map, Option, None, Some, arith, if◌then◌else◌}
use Rattle.std.specs.Prelude.{not, nat_le}
use Rattle.world_model.specs.Words.{Mark, Cell, Record, Loss, Chance, PoolFull, Broken, Cut, is_frame, has_entry, losses_of, Journal, noted, Reassembly, passed_over, without_slot, too_long, most_cells, marks_of, broken, noted_all, distinct, cut, last_mark, tested_by}
use Rattle.world_model.specs.frame_model.Reassembly.{Taken, taken, cell_joined}
use Rattle.law_port_facts.proofs.Keyed.{on_both}

pub no_shorter : {A : Type 0} (xs ys : List A) → length xs ≤ length (xs ++ ys)
no_shorter [] ys = omega arith
no_shorter (x ∷ xs) ys = omega (arith, no_shorter xs ys)

pub one_longer : {A : Type 0} (xs : List A) (y : A) → length xs < length (xs ++ y ∷ [])
one_longer [] y = omega arith
one_longer (x ∷ xs) y = omega (arith, one_longer xs y)

-- *The entries of some notes* are no fewer than so many
abbrev pub AtLeast : ℕ → Journal → Type 0
AtLeast n notes = n ≤ length notes.entries

pub noted_more : (n : ℕ) (notes : Journal) (item : Record) → AtLeast n notes → AtLeast n (noted notes item)
noted_more n notes item h = omega (arith, h, no_shorter notes.entries (losses_of (item ∷ [])))

all_more : (n : ℕ) (items : List Record) (notes : Journal) → AtLeast n notes → AtLeast n (noted_all notes items)
all_more n [] notes h = h
all_more n (item ∷ items) notes h = all_more n items (noted notes item) (noted_more n notes item h)

pub cut_more : (n : ℕ) (notes : Journal) (r : Reassembly) → AtLeast n notes → AtLeast n (cut notes r)
cut_more n notes r h = all_more n (map (λ (mark : Mark). Loss mark Cut) (distinct (marks_of r.chain))) notes h

broken_more : (n : ℕ) (marks : List Mark) (notes : Journal) → AtLeast n notes → AtLeast n (broken notes marks)
broken_more n [] notes h = h
broken_more n (mark ∷ marks) notes h = broken_more n marks (if has_entry notes.entries mark then notes else noted notes (Loss mark Broken))
    (on_both (AtLeast n) (has_entry notes.entries mark) notes (noted notes (Loss mark Broken)) h (noted_more n notes (Loss mark Broken) h))

pub tested_more : (n : ℕ) (notes : Journal) (cells : List Cell) (o : Option (List ℕ)) → AtLeast n notes → AtLeast n (tested_by notes cells o).notes
tested_more n notes cells None h = broken_more n (marks_of cells) notes h
tested_more n notes cells (Some payload) h = on_both (AtLeast n) (is_frame notes.frames (last_mark cells) payload) notes (noted notes (Chance (last_mark cells))) h (noted_more n notes (Chance (last_mark cells)) h)

pub taken_more : (n : ℕ) (notes : Journal) (slot : Bool) (r : Reassembly) (cell : Cell) → AtLeast n notes → AtLeast n (taken notes slot r cell).notes
taken_more n notes slot r cell h =
    let More : Taken → Type 0 = λ t. AtLeast n t.notes in
    on_both More r.is_skipping (passed_over notes r cell) _ (broken_more n (cell.mark ∷ []) notes h)
    (on_both More (not slot) (without_slot notes r cell) _ (broken_more n (marks_of r.chain) (noted notes (Loss cell.mark PoolFull)) (noted_more n notes (Loss cell.mark PoolFull) h))
    (on_both More (nat_le most_cells (length r.chain)) (too_long notes r cell) (cell_joined notes r cell) (broken_more n (marks_of (r.chain ++ cell ∷ [])) notes h)
    (on_both More cell.header.last (record { reassembly = record r { chain = [] }; notes = notes; ended = r.chain ++ cell ∷ [] }) (record { reassembly = record r { chain = r.chain ++ cell ∷ [] }; notes = notes; ended = [] }) h h)))
