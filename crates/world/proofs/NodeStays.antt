-- an input that comes to an actor of a node

use Rattle.std.proofs.Common.{◌≡◌, ◌+◌, arith}
use Rattle.world_model.specs.Controller as controllers
use Rattle.world.specs.declared.inputs.ControllerInput.{ControllerInput}
use Rattle.world.specs.declared.inputs.ControllerInput.TheVariants.{Cell, Tick, Restart, Change, Forge}
use Rattle.world.specs.Inputs.{controller_given}
use Rattle.law_world_pace.proofs.law_actor_pace.Controllers.{cell_follows, change_changes, restarts_paces, ticks_paces}
use Rattle.law_world_pace.proofs.law_actor_pace.Paces.{sends_paces}

-- a controller stays that of its node
pub node_stays : (input : ControllerInput) (a : controllers.Acted) → (controller_given input a).controller.node ≡ a.controller.node
node_stays (Cell cell) a = (cell_follows (cell.now.mark.frame + 1) a cell.now (omega arith)).node
node_stays Tick a = (ticks_paces 0 a).node
node_stays Restart a = (restarts_paces 0 a).node
node_stays (Change change) a = (change_changes 0 a change.now).node
node_stays (Forge frame) a = (sends_paces frame.mark.frame a frame.channel frame.mark frame.payload.now (λ most from le. from)).node
