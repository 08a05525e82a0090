-- the law of a controller

use Rattle.law_run_facts.proofs.law_controller_facts.Laws.{has_ports}
use Rattle.law_controller_weights.specs.Coming.{CellsArePaid}
use Rattle.law_controller_weights.proofs.Cells.{cell_cost}

pub cells_are_paid : CellsArePaid
cells_are_paid topology node bound frames setups a cell short sound fine brings extends =
    (let w = cell_cost topology node bound frames short setups a cell (has_ports setups a sound) brings in w.cost fine extends)
