-- a chain that a cell ends is of that cell

use Rattle.std.proofs.Common.{◌≡◌, Bool, not, List, [], ◌∷◌, ◌++◌, length, refl, sym, ◌∙◌}
use Rattle.std.specs.Prelude.{nat_le}
use Rattle.law_branch_shapes.specs.world_model.Words.{Cell, Journal, last_mark, Reassembly, most_cells, passed_over, without_slot, too_long}
use Rattle.law_branch_shapes.specs.world_model.frame_model.Reassembly.{Taken, taken, cell_joined}
use Rattle.law_frame_readings.proofs.law_port_facts.Keyed.{on_both}
use Rattle.law_frame_readings.proofs.law_shown_cells.Tested.{last_is}

abbrev EndsIn : Cell → List Cell → Type 0
EndsIn cell [] = Unit {0}
EndsIn cell (x ∷ xs) = last_mark (x ∷ xs) ≡ cell.mark

behind_ends : (cell : Cell) (chain : List Cell) → EndsIn cell (chain ++ cell ∷ [])
behind_ends cell [] = refl
behind_ends cell (x ∷ chain) = last_is (x ∷ chain) cell

taken_ends : (notes : Journal) (slot : Bool) (r : Reassembly) (cell : Cell) → EndsIn cell (taken notes slot r cell).ended
taken_ends notes slot r cell = on_both Ends r.is_skipping (passed_over notes r cell) _ tt
    (on_both Ends (not slot) (without_slot notes r cell) _ tt
    (on_both Ends (nat_le most_cells (length r.chain)) (too_long notes r cell) (cell_joined notes r cell) tt
    (on_both Ends cell.header.last (record { reassembly = record r { chain = [] }; notes = notes; ended = r.chain ++ cell ∷ [] }) (record { reassembly = record r { chain = r.chain ++ cell ∷ [] }; notes = notes; ended = [] })
    (behind_ends cell r.chain) tt)))
  where
    Ends : Taken → Type 0
    Ends t = EndsIn cell t.ended

pub ended_mark : (notes : Journal) (slot : Bool) (r : Reassembly) (cell first : Cell) (chain : List Cell) → (taken notes slot r cell).ended ≡ first ∷ chain → last_mark (first ∷ chain) ≡ cell.mark
ended_mark notes slot r cell first chain e = by (taken notes slot r cell).ended (taken_ends notes slot r cell) e
  where
    by : (cells : List Cell) → EndsIn cell cells → cells ≡ first ∷ chain → last_mark (first ∷ chain) ≡ cell.mark
    by [] h e = absurd (cc e)
    by (x ∷ xs) h e = (let one : x ≡ first = cc in let rest : xs ≡ chain = cc in (λ i. last_mark (sym one i ∷ sym rest i)) ∙ h)
