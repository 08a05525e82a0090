-- As many packets of a flow as are sent are heard at each end of their way

use Rattle.std.specs.Prelude.{◌≡◌, ℕ, suc, ◌-◌, ◌<◌, List, [], ◌∷◌, ◌++◌, None, Some}
use Rattle.world_model.specs.Words.{NodeId, Up, Mark, FlowId, flow_ttl, at_ttl, packet_flow, onward, ttl_of, default_home, default_payload, inject_refusal, Policy, Topology, World, next}
use Rattle.world_model.specs.network_model.declared.link.LinkEnd.{LinkEnd}
use Rattle.world_model.specs.network_model.declared.event.Event.{Event}
use Rattle.world_model.specs.network_model.declared.event.Event.TheVariants.{Inject, Carry}
pub use Rattle.calm_model.specs.Ways.{one_hop, SendsMany, none_sent, sent, other}
use Rattle.law_live_carried_out.specs.law_live_hearing.Law.{world_at, Hears}
use Rattle.law_live_carried_out.specs.law_live_bound.Law.{HoldsPacket}
use Rattle.law_live_journeys.specs.Hops.{IsStretch}
use Rattle.law_live_journeys.specs.Journeys.{KeepsRoutes, Enters}

-- *A packet that goes on* is of its flow one hop further
abbrev pub FlowsGoOn : Type 0
FlowsGoOn = (packet : List ℕ) (flow : FlowId) → inject_refusal packet ≡ None → 1 < ttl_of packet → packet_flow packet ≡ Some flow
    → packet_flow (onward packet) ≡ Some (one_hop flow)

-- *So many of them are heard* at an end of a link, at least: each at a carry of its own, on the default channel of the port
pub data HearsMany (topology : Topology) (far : LinkEnd) (flow : FlowId) : World → List Event → ℕ → Type 0 where
  none_heard : (w : World) (events : List Event) → HearsMany topology far flow w events 0
  heard : (w : World) (events : List Event) (n : ℕ) (mark : Mark) (packet : List ℕ)
      → Hears topology w far.node (default_home far.port).channel mark (default_payload packet) → HoldsPacket (default_payload packet) packet
      → packet_flow packet ≡ Some flow → HearsMany topology far flow (next topology w (Carry (Up far.node))) events n
      → HearsMany topology far flow w (Carry (Up far.node) ∷ events) (suc n)
  unheard : (w : World) (event : Event) (events : List Event) (n : ℕ) → HearsMany topology far flow (next topology w event) events n
      → HearsMany topology far flow w (event ∷ events) n

-- *Along a way*: so many at each end, of the flow as it is there
abbrev pub HearsManyAlong : Topology → World → List Event → (flow : FlowId) → (n : ℕ) → List LinkEnd → Type 0
HearsManyAlong topology w events flow n [] = Unit {0}
HearsManyAlong topology w events flow n (far ∷ ends) =
    HearsMany topology far (one_hop flow) w events n × HearsManyAlong topology w events (one_hop flow) n ends

-- *As many as are sent* of a flow in a stretch of a run in which no route changes, where each goes its way ungranted and unlost
abbrev pub PacketsAreCounted : Type 0
PacketsAreCounted = (policy : Policy) (topology : Topology) (past events : List Event) (node : NodeId) (flow : FlowId) (ends : List LinkEnd) (n : ℕ)
    → IsStretch policy topology past events → KeepsRoutes policy topology past events → SendsMany node flow events n
    → ((front rest : List Event) (packet : List ℕ) → events ≡ front ++ Inject node packet ∷ rest → inject_refusal packet ≡ None
    → packet_flow packet ≡ Some flow → Enters policy topology past events front rest node packet ends)
    → HearsManyAlong topology (world_at policy topology past) events flow n ends
