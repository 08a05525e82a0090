-- A flow can be served along its way: the policy offers it labels, and the ports and nodes have room for them

use Rattle.std.specs.Prelude.{◌≡◌, ◌≢◌, ℕ, ◌≤◌, ◌<◌, true, List, [], ◌∷◌, ◌++◌, length, flat_map, Contains, Option, None, Some}
use Rattle.std.specs.Option.{option_and_then}
use Rattle.world_model.specs.Words.{NodeId, PortNo, End, Policy, FlowId, flow_ttl, at_ttl, flow_destination, grant_for, label_for, labels_of, lowest_spare, label_on, inputs_at, most_asked, Label, Grant, Session, Controller, controller_at, Linked, linked_end, grants_at, table_in, Topology, World, world_after}
use Rattle.world_model.specs.port_model.Counts.{greatest_count, most_flows}
use Rattle.world_model.specs.ipv4_packet.declared.flow.FlowId.TheVariants.{One, Two}
use Rattle.world_model.specs.Topology.{peer_of}
use Rattle.world_model.specs.network_model.declared.link.LinkEnd.{LinkEnd}
use Rattle.world_model.specs.network_model.declared.event.Event.{Event}
use Rattle.calm_model.specs.Ways.{IsWayFrom, one_hop, SendsMany}

-- *The policy offers a label* to a flow, from so many packets of it on
pub record OffersLabels (policy : Policy) (flow : FlowId) (wanted : ℕ) : Type 0 where
  pub some : 1 ≤ wanted
  pub few : wanted ≤ greatest_count
  pub offers : (count : ℕ) → wanted ≤ count → policy.offers flow count ≡ true

-- *A port can serve* a flow: it counts fewer flows than it can; and, unless a label of it serves the flow already, it has one to spare
pub record CanServe (linked : Linked) (session : Session) (flow : FlowId) : Type 0 where
  pub few : length session.counted < most_flows
  pub spare : label_for session.labels flow ≡ None → lowest_spare linked.setup session.least session.greatest session.labels ≢ None

abbrev pub IsServable : World → LinkEnd → FlowId → Type 0
IsServable w far flow = (linked : Linked) (session : Session) → linked_end w far ≡ Some linked → linked.port.session ≡ Some session
    → CanServe linked session flow

-- *The flow of type 2* of the packets of a flow of type 1, which is that of their two hosts
abbrev pub hosts_of : FlowId → Option FlowId
hosts_of (One tos ttl protocol source destination source_port destination_port) = Some (Two ttl source destination)
hosts_of (Two ttl source destination) = None

-- *A flow is alone at a node*: one input at most has a label of it; and the node has no more labels than requests may stand
pub record IsAloneAt (c : Controller) (flow : FlowId) : Type 0 where
  pub alone : (input other : End) (label same : Label) → Contains (flat_map inputs_at c.ports) input → Contains (flat_map inputs_at c.ports) other
      → label_on c input ≡ Some label → label_on c other ≡ Some same → label.flow ≡ flow → same.flow ≡ flow → input ≡ other
  pub few : length (flat_map inputs_at c.ports) ≤ most_asked

-- so it is asked of the nodes between the first and the last, where labels are joined
abbrev pub IsAloneBetween : World → (far : LinkEnd) → FlowId → (ends : List LinkEnd) → Type 0
IsAloneBetween w far flow [] = Unit {0}
IsAloneBetween w far flow (next ∷ ends) = (c : Controller) → controller_at w far.node ≡ Some c → IsAloneAt c flow

-- *A link is free* for a flow that comes over it: the controller sends nothing under a grant for the flow's hosts alone; the port at which the flow
-- comes in can serve it, and has one label of it at most
pub record IsFreeLink (w : World) (one far : LinkEnd) (flow : FlowId) : Type 0 where
  pub none_of_hosts : option_and_then (grant_for (grants_at w one)) (hosts_of flow) ≡ None
  pub servable : IsServable w far flow
  pub one_label : (linked : Linked) (label same : Label) → linked_end w far ≡ Some linked → Contains (labels_of linked.port) label
      → Contains (labels_of linked.port) same → label.flow ≡ flow → same.flow ≡ flow → label.number ≡ same.number

-- *A way is free* for a flow, link by link
abbrev pub IsFreeWay : Topology → World → NodeId → FlowId → List LinkEnd → Type 0
IsFreeWay topology w node flow [] = Unit {0}
IsFreeWay topology w node flow (far ∷ ends) =
    ((port : PortNo) → peer_of topology node port ≡ Some far → IsFreeLink w (record { node = node; port = port }) far (one_hop flow))
    × IsAloneBetween w far (one_hop flow) ends × IsFreeWay topology w far.node (one_hop flow) ends

-- *A flow is new* on a link that it comes over: the port at which it comes in has no label of it, and the other end has no grant for it
pub record IsNewLink (w : World) (one far : LinkEnd) (flow : FlowId) : Type 0 where
  pub labels : (linked : Linked) (label : Label) → linked_end w far ≡ Some linked → Contains (labels_of linked.port) label → label.flow ≢ flow
  pub grants : (grant : Grant) → Contains (grants_at w one) grant → grant.flow ≢ flow

-- so along a way
abbrev pub IsNewOn : Topology → World → NodeId → FlowId → List LinkEnd → Type 0
IsNewOn topology w node flow [] = Unit {0}
IsNewOn topology w node flow (far ∷ ends) =
    ((port : PortNo) → peer_of topology node port ≡ Some far → IsNewLink w (record { node = node; port = port }) far (one_hop flow))
    × IsNewOn topology w far.node (one_hop flow) ends

-- *A flow is sent* among some events: at least so many packets of it, from how many on the policy offers a label to it, with whatever Time To Live.
-- They go along a way by the routes, with more hops to live than it has links; as the events begin the flow is new on the way, and the way is free
-- behind each front of them
pub record IsSent (policy : Policy) (topology : Topology) (w : World) (events : List Event) (node : NodeId) (flow : FlowId) (ends : List LinkEnd) : Type 0 where
  pub wanted : ℕ
  pub offered : (ttl : ℕ) → OffersLabels policy (at_ttl flow ttl) wanted
  pub many : SendsMany node flow events wanted
  pub way : IsWayFrom topology (λ n. table_in n w) (flow_destination flow) node ends
  pub lives : length ends < flow_ttl flow
  pub new : IsNewOn topology w node flow ends
  pub free : (front rest : List Event) → events ≡ front ++ rest → IsFreeWay topology (world_after topology w front) node flow ends
