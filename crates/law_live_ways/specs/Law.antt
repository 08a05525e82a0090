-- Open ways stay open in a network

use Rattle.std.specs.Prelude.{◌≡◌, ◌⊎◌, ℕ, List, ◌∷◌, ◌++◌, Some, Ok}
use Rattle.world_model.specs.Words.{NodeId, Down, payload_in, Topology, World, IsTopology, OfSwitch, next, tick_of_all, world_after}
use Rattle.world_model.specs.frame_model.Frame.{octets_of}
use Rattle.world_model.specs.gsmp_wire.declared.message.Message.{Message}
use Rattle.world_model.specs.gsmp_wire.Fields.{decoded}
use Rattle.world_model.specs.Stretches.{ended_at}
use Rattle.world_model.specs.network_model.declared.link.LinkEnd.{LinkEnd}
use Rattle.world_model.specs.network_model.declared.event.Event.{Event}
use Rattle.world_model.specs.network_model.declared.event.Event.TheVariants.{Carry, RestartSwitch}
use Rattle.law_live_orders.specs.Law.{IsOpenWay}
use Rattle.law_live_ways.specs.Requests.{AsksKeeping}

-- *What a switch reads* as it is brought a cell by its controller: in the payload of the chain that the cell ends
pub record IsRead (w : World) (node : NodeId) (message : Message) : Type 0 where
  pub payload : List ℕ
  pub whole : payload_in (octets_of (ended_at w (Carry (Down node)) (OfSwitch node))) ≡ Some payload
  pub read : decoded payload ≡ Ok message

-- *An event keeps a way*, whatever it is, but where one of the two switches reads anything else, or is restarted
abbrev pub IsAtEnd : (one far : LinkEnd) → NodeId → Type 0
IsAtEnd one far node = (node.0 ≡ one.node.0) ⊎ (node.0 ≡ far.node.0)

abbrev pub KeepsWay : World → (one far : LinkEnd) → Event → Type 0
KeepsWay w one far (Carry (Down node)) = IsAtEnd one far node → (message : Message) → IsRead w node message → AsksKeeping message
KeepsWay w one far (RestartSwitch node) = IsAtEnd one far node → ⊥
KeepsWay w one far event = Unit {0}

abbrev pub WaysStayOpen : Type 0
WaysStayOpen = (topology : Topology) (w : World) (one far : LinkEnd) (event : Event) → IsTopology topology → IsOpenWay topology w one far
    → KeepsWay w one far event → IsOpenWay topology (next topology w event) one far

-- so along a stretch of events, where it is so of each
abbrev pub StretchesKeepWays : Type 0
StretchesKeepWays = (topology : Topology) (w : World) (one far : LinkEnd) (events : List Event) → IsTopology topology → IsOpenWay topology w one far
    → ((front rest : List Event) (event : Event) → events ≡ front ++ event ∷ rest → KeepsWay (world_after topology w front) one far event)
    → IsOpenWay topology (world_after topology w events) one far

-- and in the ticks of a beat without more, behind each front of them
abbrev pub TicksKeepWays : Type 0
TicksKeepWays = (topology : Topology) (w : World) (one far : LinkEnd) (front rest : List Event) → IsTopology topology → IsOpenWay topology w one far
    → tick_of_all w ≡ front ++ rest → IsOpenWay topology (world_after topology w front) one far
