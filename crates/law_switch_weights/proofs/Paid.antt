-- the law of a switch

use Rattle.law_switch_weights.specs.Coming.{CellsArePaid}
use Rattle.law_switch_weights.proofs.Switches.{cell_cost}

pub cells_are_paid : CellsArePaid
cells_are_paid topology node bound frames a port cell count short unmade pays extends =
    (let g = cell_cost topology node bound frames short a port cell count pays.asks pays.leads in g.cost unmade extends)
