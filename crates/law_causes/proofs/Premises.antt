-- what the law asks of each world of a run

use Rattle.std.proofs.Common.{◌≡◌, true, Some}
use Rattle.law_cell_lists.specs.world_model.Words.{NodeId, Channel, Controller, World, controller_at}
use Rattle.law_causes.specs.Feeding.{IsFedOnce}
use Rattle.law_causes.proofs.Ends.{has_cells, chain_in, open_in}

-- each list is fed by one other at most, and a channel of a controller that has cells or skips is taken
pub record IsOrderly (w : World) : Type 0 where
  pub fed : IsFedOnce w
  pub taken : (n : NodeId) (c : Controller) → controller_at w n ≡ Some c → (channel : Channel) → has_cells (chain_in c.reassembly c.ports channel) ≡ true → open_in c.ports channel ≡ true
