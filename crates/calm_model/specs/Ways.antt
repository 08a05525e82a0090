-- The way of a flow by the routes of the nodes, hop by hop (RFC 1812 5.2.1), and the packets of it that are sent

use Rattle.std.specs.Prelude.{◌≡◌, ℕ, suc, ◌-◌, List, [], ◌∷◌, None, Some}
use Rattle.world_model.specs.Words.{NodeId, PortNo, Addr, best, Local, Via, FlowId, flow_ttl, at_ttl, packet_flow, inject_refusal, Topology}
use Rattle.world_model.specs.Topology.{peer_of}
use Rattle.world_model.specs.ipv4_forward.declared.table.Route.{Route}
use Rattle.world_model.specs.network_model.declared.link.LinkEnd.{LinkEnd}
use Rattle.world_model.specs.network_model.declared.event.Event.{Event}
use Rattle.world_model.specs.network_model.declared.event.Event.TheVariants.{Inject}

-- *The way* of a destination from a node, by tables: the ends of links at which a packet for it comes in, one behind another. The best
-- route of each node leads over the link to the next end, and that of the last one is local
pub record LeadsTo (topology : Topology) (table : List Route) (node : NodeId) (destination : Addr) (far : LinkEnd) : Type 0 where
  pub port : PortNo
  pub route : best table destination ≡ Some (Via port)
  pub linked : peer_of topology node port ≡ Some far

abbrev pub IsWayFrom : Topology → (tables : NodeId → List Route) → (destination : Addr) → NodeId → List LinkEnd → Type 0
IsWayFrom topology tables destination node [] = best (tables node) destination ≡ Some Local
IsWayFrom topology tables destination node (far ∷ ends) =
    LeadsTo topology (tables node) node destination far × IsWayFrom topology tables destination far.node ends

abbrev pub last_node : NodeId → List LinkEnd → NodeId
last_node node [] = node
last_node node (far ∷ ends) = last_node far.node ends

-- *The flow one hop further*, of a flow with two hops to live or more: that of its packets there
abbrev pub one_hop : FlowId → FlowId
one_hop flow = at_ttl flow (flow_ttl flow - 1)

-- *So many packets of a flow* enter at a node, at least, among some events, in order
pub data SendsMany (node : NodeId) (flow : FlowId) : List Event → ℕ → Type 0 where
  none_sent : (events : List Event) → SendsMany node flow events 0
  sent : (packet : List ℕ) (events : List Event) (n : ℕ) → inject_refusal packet ≡ None → packet_flow packet ≡ Some flow
      → SendsMany node flow events n → SendsMany node flow (Inject node packet ∷ events) (suc n)
  other : (event : Event) (events : List Event) (n : ℕ) → SendsMany node flow events n → SendsMany node flow (event ∷ events) n
