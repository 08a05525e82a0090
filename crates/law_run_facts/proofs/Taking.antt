-- what a channel makes of a cell, and a test of a frame, leaves the frames that were made

use Rattle.std.proofs.Common.{◌≡◌, Bool, true, subst, List, [], ◌∷◌, ◌++◌, length}
use Rattle.std.specs.Prelude.{not, nat_le}
use Rattle.law_world_pace.specs.world_model.Words.{Cell, Journal, tested, payload_in, Reassembly, passed_over, without_slot, too_long, most_cells}
use Rattle.law_world_pace.specs.world_model.frame_model.Frame.{octets_of}
use Rattle.law_world_pace.specs.world_model.frame_model.Reassembly.{Taken, taken, cell_joined}
use Rattle.law_controller_bindings.proofs.law_port_facts.Keyed.{on_both, on_each}
pub use Rattle.law_world_views.proofs.law_shown_cells.Tested.{cut_frames, taken_frames}
use Rattle.law_world_views.proofs.law_shown_cells.Tested as cells_of

-- *A test of a frame* makes no frame
pub tested_frames : (notes : Journal) (cells : List Cell) → (tested notes cells).notes.frames ≡ notes.frames
tested_frames notes cells = cells_of.tested_frames notes cells (payload_in (octets_of cells))

-- *A channel that takes a cell* has what it had, nothing, or the cell besides
pub taken_chain : (P : List Cell → Type 0) (notes : Journal) (slot : Bool) (r : Reassembly) (cell : Cell) → P r.chain → P [] → P (r.chain ++ cell ∷ []) → P (taken notes slot r cell).reassembly.chain
taken_chain P notes slot r cell same none more = on_both Of r.is_skipping (passed_over notes r cell) _ same
    (on_both Of (not slot) (without_slot notes r cell) _ none
    (on_both Of (nat_le most_cells (length r.chain)) (too_long notes r cell) (cell_joined notes r cell) none
    (on_both Of cell.header.last (record { reassembly = record r { chain = [] }; notes = notes; ended = r.chain ++ cell ∷ [] }) (record { reassembly = record r { chain = r.chain ++ cell ∷ [] }; notes = notes; ended = [] }) none more)))
  where
    Of : Taken → Type 0
    Of t = P t.reassembly.chain

-- a chain ends at a last cell alone
abbrev pub IsByLast : Cell → List Cell → Type 0
IsByLast cell [] = Unit {0}
IsByLast cell (first ∷ rest) = cell.header.last ≡ true

pub ended_by_last : (notes : Journal) (slot : Bool) (r : Reassembly) (cell first : Cell) (rest : List Cell) → (taken notes slot r cell).ended ≡ first ∷ rest → cell.header.last ≡ true
ended_by_last notes slot r cell first rest e = subst (IsByLast cell) e
    (on_both Of r.is_skipping (passed_over notes r cell) _ tt
    (on_both Of (not slot) (without_slot notes r cell) _ tt
    (on_both Of (nat_le most_cells (length r.chain)) (too_long notes r cell) (cell_joined notes r cell) tt
    (on_each Of cell.header.last (record { reassembly = record r { chain = [] }; notes = notes; ended = r.chain ++ cell ∷ [] }) (record { reassembly = record r { chain = r.chain ++ cell ∷ [] }; notes = notes; ended = [] })
    (λ t. by_last t r.chain) (λ f. tt)))))
  where
    Of : Taken → Type 0
    Of t = IsByLast cell t.ended

    by_last : cell.header.last ≡ true → (cells : List Cell) → IsByLast cell (cells ++ cell ∷ [])
    by_last t [] = t
    by_last t (x ∷ cells) = t
