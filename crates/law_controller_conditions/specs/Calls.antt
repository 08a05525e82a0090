-- What a router's calls ask of the controller that it is holds wherever `IsHeld` does, also in the midst of an event,
-- where what the rule leaves has numbers that can be given out

use Rattle.std.specs.Prelude.{◌≡◌, ℕ, true, false, List, fold}
use Rattle.law_controller.specs.world_model.Words.{PortNo, Addr, End, Greeting, gsmp_answer, gsmp_received, is_estab, ticked, IsLinkPort, Request, InRange, Standing, hears, counts, asks, takes_back, node_resets, node_restarts, Rule, resets_port, at_port, resets_spent, empties, causes_in_estab, ticks_port, ticks_ports}
use Rattle.law_controller.specs.world_model.gsmp_wire.declared.request.Request.TheVariants.{DeleteAll}
use Rattle.law_controller.specs.world_model.ifmp_wire.declared.message.Message.{Message}
use Rattle.law_controller.specs.ordered_lists.Ordered.{Every}
use Rattle.law_controller.specs.world_model.port_model.Answers.{done}
use Rattle.law_controller.specs.world_model.port_model.Ticks as port_ticks
use Rattle.law_controller.specs.law_port_facts.Port.{IsLabelEnd, IsShaped}
use Rattle.law_controller.specs.world_model.Controller.{Acted, ports_of}
use Rattle.law_controller.specs.world_model.Gsmp.{steps}
use Rattle.law_controller.specs.Order.{IsDeleting}
use Rattle.controller_router.specs.Conditions.{CanAsk, CanTakeBack, CanResetNode, CanResetPort, CanWork, EachCanTick, CanFollow, turned_to}
use Rattle.controller_router.specs.Meeting.{CanResetSpent, EachCanResetSpent, CanEmpty, CanCause}
use Rattle.law_controller_conditions.specs.Kept.{IsHeld, AreIn}

-- *Requests* of the shapes that a controller asks, and joins that are taken back
pub record CanBeAsked : Type 0 where
  pub asks : (a : Acted) (request : Request) (h : IsHeld a.controller) → IsShaped h.setups request → AreIn (asks a request).numbers → CanAsk a request
  pub takes_back : (a : Acted) (input output : End) (h : IsHeld a.controller) → IsLabelEnd h.setups input → IsLabelEnd h.setups output
      → AreIn (takes_back a input output).numbers → CanTakeBack a input output

-- *Resets* of the node and of its ports; a port is reset once the switch is met
pub record CanBeReset : Type 0 where
  pub node : (a : Acted) → IsHeld a.controller → AreIn (node_resets a).numbers → CanResetNode a
  pub restart : (a : Acted) → IsHeld a.controller → AreIn (node_restarts a).numbers → CanResetNode a
  pub port : (a : Acted) (port : PortNo) → IsHeld a.controller → a.controller.has_met ≡ true → AreIn (resets_port a port).numbers → CanResetPort a port
  pub spent : (a : Acted) (port : PortNo) → IsHeld a.controller → AreIn (resets_spent a port).numbers → CanResetSpent a port
  pub each_spent : (a : Acted) → IsHeld a.controller → AreIn (fold resets_spent a (ports_of a.controller)).numbers → EachCanResetSpent a (ports_of a.controller)

-- *Rules of a port*
abbrev pub hearing : Addr → Message → Rule
hearing source message setup desk w = hears setup desk w source message

abbrev pub counting : (packet : List ℕ) → Rule
counting packet setup desk w = counts setup desk w packet

abbrev pub telling : Request → Rule
telling request setup desk w = done setup w request

pub record PortsCanWork : Type 0 where
  pub hears : (a : Acted) (port : PortNo) (source : Addr) (message : Message) → IsHeld a.controller → InRange message
      → AreIn (at_port a port (hearing source message)).numbers → CanWork a port (hearing source message)
  pub counts : (a : Acted) (port : PortNo) (packet : List ℕ) → IsHeld a.controller → AreIn (at_port a port (counting packet)).numbers → CanWork a port (counting packet)
  pub told : (a : Acted) (port : PortNo) (request : Request) → IsHeld a.controller → AreIn (at_port a port (telling request)).numbers → CanWork a port (telling request)
  pub ticks : (a : Acted) (port : PortNo) → IsHeld a.controller → AreIn (ticks_port a port).numbers → CanWork a port port_ticks.ticks
  pub each_ticks : (a : Acted) → IsHeld a.controller → AreIn (ticks_ports a).numbers → EachCanTick a (ports_of a.controller)

-- *The switch*: what the adjacency with it asks where a message comes or a tick goes by; what the answer to All Ports
-- asks, where Delete Alls alone stand; and what an answer causes
abbrev pub IsEmptying : Acted → Type 0
IsEmptying a = a.controller.has_met ≡ false → Every (λ (s : Standing). IsDeleting s.request) a.controller.desk.standing

pub record SwitchCanBeMet : Type 0 where
  pub greets : (a : Acted) (greeting : Greeting) → IsHeld a.controller → AreIn (steps a (gsmp_received a.controller.adjacency greeting)).numbers
      → CanFollow (turned_to a (gsmp_received a.controller.adjacency greeting)) (gsmp_answer (gsmp_received a.controller.adjacency greeting).answer)
  pub ages : (a : Acted) → IsHeld a.controller → AreIn (steps a (ticked a.controller.adjacency)).numbers
      → CanFollow (turned_to a (ticked a.controller.adjacency)) (gsmp_answer (ticked a.controller.adjacency).answer)
  pub lists : (a : Acted) → IsHeld a.controller → a.controller.has_met ≡ false → IsEmptying a → AreIn (empties a).numbers → CanEmpty a
  pub causes : (a : Acted) (request : Request) (h : IsHeld a.controller) → IsShaped h.setups request → is_estab a.controller.adjacency.state ≡ true → IsEmptying a
      → ((port : PortNo) → request ≡ DeleteAll port → a.controller.has_met ≡ true → IsLinkPort port) → AreIn (causes_in_estab a request).numbers → CanCause a request
