-- What comes to an actor of a node: what it makes of the actor, and what it asks. No claim needs this file.

use Rattle.std.specs.Prelude.{◌≡◌, ◌+◌, ◌-◌, ◌^◌, ◌≤◌, ◌<◌, true, length, slice_index_or, None}
use Rattle.net_types.specs.declared.node.NodeId.{NodeId}
use Rattle.net_types.specs.Number.{GivenOut, HasNumbersLeft}
use Rattle.ipv4_forward.specs.Change.{change_fault}
use Rattle.ipv4_forward.specs.declared.change.RouteChange.{RouteChange}
use Rattle.world_model.specs.Cells as controllers
use Rattle.world_model.specs.Changes.{change_comes}
use Rattle.world_model.specs.Conditions.{table_to_be}
use Rattle.world_model.specs.Conduct as switches
use Rattle.world_model.specs.Controller.{Acted, Controller}
use Rattle.world_model.specs.Resets.{node_restarts}
use Rattle.world_model.specs.Sending.{sends}
use Rattle.world_model.specs.Switch.{ActedSwitch, Switch, has_port}
use Rattle.world_model.specs.Ticks.{ticks}
use Rattle.world_model.specs.World.{World, at_controller, at_switch}
use Rattle.law_world_pace.specs.law_actor_pace.Pace.{changes_of}
use Rattle.node_controller.specs.Nodes.{NamesLinked}
use Rattle.world.specs.declared.inputs.ForgedFrame.{ForgedFrame}
use Rattle.world.specs.declared.inputs.ControllerInput.{ControllerInput}
use Rattle.world.specs.declared.inputs.ControllerInput.TheVariants.{Cell, Tick, Restart, Change, Forge}
use Rattle.world.specs.declared.inputs.SwitchInput.{SwitchInput}
use Rattle.world.specs.declared.inputs.SwitchInput.TheVariants as to_switch
use Rattle.world.specs.declared.inputs.Input.{Input}
use Rattle.world.specs.declared.inputs.Input.TheVariants as inputs
use Rattle.world.specs.declared.site.Site.{Site as Node}
use Rattle.world.specs.declared.world.World.{World as Network}

-- *To a controller*
abbrev pub controller_given : ControllerInput → Acted → Acted
controller_given (Cell cell) a = controllers.cell_comes a cell.now
controller_given Tick a = ticks a
controller_given Restart a = node_restarts a
controller_given (Change change) a = change_comes a change.now
controller_given (Forge frame) a = sends a frame.channel frame.mark frame.payload.now

-- a change of a route can come to it
pub record CanChange (c : Controller) (change : RouteChange) : Type 0 where
  pub accepted : change_fault (table_to_be c) change ≡ None
  pub port : NamesLinked c change
  pub count : changes_of c + 1 < 2 ^ 32

-- a frame can be forged
pub record IsForgeable (frame : ForgedFrame) : Type 0 where
  pub channel : frame.channel.vpi ≤ 255
  pub some : 1 ≤ length frame.payload.now
  pub most : length frame.payload.now ≤ 1528

abbrev pub CanReachController : Controller → GivenOut → ControllerInput → Type 0
CanReachController c numbers (Cell cell) = (cell.now.mark.frame < 2 ^ 63) × HasNumbersLeft numbers
CanReachController c numbers Tick = HasNumbersLeft numbers
CanReachController c numbers Restart = HasNumbersLeft numbers
CanReachController c numbers (Change change) = CanChange c change.now × HasNumbersLeft numbers
CanReachController c numbers (Forge frame) = IsForgeable frame

-- *To a switch*
abbrev pub switch_given : SwitchInput → ActedSwitch → ActedSwitch
switch_given (to_switch.Cell port cell) a = switches.cell_comes a port cell.now
switch_given to_switch.Tick a = switches.tick_comes a
switch_given to_switch.Restart a = switches.restarted a
switch_given (to_switch.Forge port frame) a = switches.forged a port frame.channel frame.mark frame.payload.now

abbrev pub CanReachSwitch : Switch → GivenOut → SwitchInput → Type 0
CanReachSwitch s numbers (to_switch.Cell port cell) = HasNumbersLeft numbers
CanReachSwitch s numbers to_switch.Tick = HasNumbersLeft numbers
CanReachSwitch s numbers to_switch.Restart = HasNumbersLeft numbers
CanReachSwitch s numbers (to_switch.Forge port frame) = (has_port s.ports port ≡ true) × IsForgeable frame

-- *To either of them*, at a node
abbrev pub world_given : World → NodeId → Input → World
world_given w node (inputs.Controller input) = at_controller w node (controller_given input)
world_given w node (inputs.Switch input) = at_switch w node (switch_given input)

abbrev pub CanReach : {C : Type 0} → (C → Controller) → Network C → NodeId → Input → Type 0
CanReach seen n node (inputs.Controller input) = (d : Node _) → CanReachController (seen (slice_index_or n.sites.items (node.0 - 1) d).controller) n.numbers input
CanReach seen n node (inputs.Switch input) = (d : Node _) → CanReachSwitch (slice_index_or n.sites.items (node.0 - 1) d).switch n.numbers input
