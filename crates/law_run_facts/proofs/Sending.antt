-- what holds of a controller stays so in every rule, where it does as any control frame is sent, whatever it says

use Rattle.std.proofs.Common.{ℕ, List, [], ◌++◌, ◌∷◌, Result}
use Rattle.std.specs.Prelude.{◌+◌}
use Rattle.law_world_pace.specs.world_model.Words.{PortNo, Channel, Cell, changed, RouteChange, Frame, default_channel, default_home, sends_control, says_gsmp, node_restarts, Rule, at_port, change_comes, gsmp_holds}
use Rattle.law_world_pace.specs.world_model.ipv4_forward.declared.table.Route.{Route}
use Rattle.law_world_pace.specs.world_model.gsmp_wire.Layout.{octets_of as gsmp_octets}
use Rattle.law_world_pace.specs.world_model.gsmp_wire.declared.fault.Fault.{Fault as GsmpFault}
use Rattle.law_world_pace.specs.world_model.gsmp_wire.declared.message.Message.{Message}
use Rattle.law_world_pace.specs.world_model.Controller.{Acted}
use Rattle.law_world_pace.specs.world_model.Ticks.{ticks}
use Rattle.law_run_facts.proofs.Walks as walks
use Rattle.law_run_facts.proofs.Walks.{Sees, Has}

module _ (S : (queue chain : List Cell) → List Frame → (controls : ℕ) → Type 0) (T : List Route → Type 0) (Q : RouteChange → Type 0) (D : (controls : ℕ) → PortNo → (chain : List Cell) → Type 0)
    (control : (a : Acted) (channel : Channel) (payload : List ℕ) → Sees S T Q D a → Sees S T Q D (sends_control a channel payload))
    (clear : (queue chain : List Cell) (frames : List Frame) (controls : ℕ) → S queue chain frames controls → S queue [] frames controls)
    (later : (controls : ℕ) (port : PortNo) (chain : List Cell) → D controls port chain → D (controls + 1) port chain) (nothing : (controls : ℕ) (port : PortNo) → D controls port [])
    (step : (table : List Route) (change : RouteChange) → T table → Q change → T (changed table change)) where
  abbrev AnyPort : PortNo → Type 0
  AnyPort port = Unit {0}

  gsmp : (a : Acted) (message : Message) → Sees S T Q D a → Sees S T Q D (says_gsmp a message)
  gsmp a message h = control a default_channel (gsmp_octets message) h

  ifmp : (a : Acted) (port : PortNo) (payload : List ℕ) → AnyPort port → Sees S T Q D a → Sees S T Q D (sends_control a (default_home port).channel payload)
  ifmp a port payload any h = control a (default_home port).channel payload h

  any_port : (controls : ℕ) (port : PortNo) (chain : List Cell) → D controls port chain → AnyPort port
  any_port controls port chain d = tt

  left : (controls : ℕ) (port : PortNo) (chain : List Cell) → D controls port chain → D controls port []
  left controls port chain d = nothing controls port

  pub sent_control : (a : Acted) (channel : Channel) (payload : List ℕ) → Has S T Q D a → Has S T Q D (sends_control a channel payload)
  sent_control a channel payload h = walks.sent_on S T Q D later a channel payload (control a channel payload h.0) h

  pub at_work : (a : Acted) (port : PortNo) (rule : Rule) → Has S T Q D a → Has S T Q D (at_port a port rule)
  at_work a port rule h = walks.at_work S T Q D AnyPort gsmp ifmp any_port clear later left step a port rule h

  pub change_walk : (a : Acted) (change : RouteChange) → Q change → Has S T Q D (record a { controller = record a.controller { waiting = a.controller.waiting ++ change ∷ [] } }) → Has S T Q D (change_comes a change)
  change_walk a change q h = walks.change_walk S T Q D AnyPort gsmp ifmp any_port clear later left step a change q h

  pub gsmp_frame : (a : Acted) (r : Result Message GsmpFault) → Has S T Q D a → Has S T Q D (gsmp_holds a r)
  gsmp_frame a r h = walks.gsmp_frame S T Q D AnyPort gsmp ifmp any_port clear later left step a r h

  pub tick_walk : (a : Acted) → Has S T Q D a → Has S T Q D (ticks a)
  tick_walk a h = walks.tick_walk S T Q D AnyPort gsmp ifmp any_port clear later left step a h

  pub restart_walk : (a : Acted) → Has S T Q D a → Has S T Q D (node_restarts a)
  restart_walk a h = walks.restart_walk S T Q D AnyPort gsmp ifmp any_port clear later left step a h
