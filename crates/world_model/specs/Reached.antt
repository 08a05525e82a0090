-- Hop by hop over the tables that the nodes held in a run: which nodes a packet has reached, as which octets and
-- when, and which fates it can have (RFC 1812 5.2.1 and 5.3.1)

use Rattle.std.specs.Prelude.{◌≡◌, ℕ, suc, ◌≤◌, List, [], ◌∷◌, slice_get, None, Some}
use Rattle.std.specs.Option.{option_map_or}
use Rattle.network_model.specs.net_types.declared.node.NodeId.{NodeId}
use Rattle.network_model.specs.net_types.declared.node.PortNo.{PortNo}
use Rattle.network_model.specs.ipv4_packet.Packet.{ttl_of, destination_of}
use Rattle.network_model.specs.ipv4_forward.Best.{best}
use Rattle.network_model.specs.ipv4_forward.Hop.{onward}
use Rattle.network_model.specs.ipv4_forward.declared.table.Next.TheVariants.{Local, Via}
use Rattle.network_model.specs.ipv4_forward.declared.table.Route.{Route}
use Rattle.network_model.specs.link_model.declared.record.DropCause.TheVariants.{NoRoute, Expired}
use Rattle.world_model.specs.Fates.{Fate, IsDelivered, IsDropped}
use Rattle.network_model.specs.controller_model.Packets.{inject_refusal}
use Rattle.network_model.specs.declared.event.Event.{Event}
use Rattle.network_model.specs.declared.event.Event.TheVariants.{Inject}
use Rattle.network_model.specs.declared.link.LinkEnd.{LinkEnd}
use Rattle.network_model.specs.Topology.{Topology, peer_of}
use Rattle.network_model.specs.World.{World, site_at}

-- a packet that a `send` gave to a node, at an event; events are counted from 0
pub record Sent : Type 0 where
  pub node : NodeId
  pub packet : List ℕ
  pub time : ℕ

-- the packets that were to be sent, in order
abbrev pub sent_by : (time : ℕ) → List Event → List Sent
sent_by time [] = []
sent_by time (Inject node octets ∷ events) = record { node = node; packet = octets; time = time } ∷ sent_by (suc time) events
sent_by time (event ∷ events) = sent_by (suc time) events

-- what is told of a run here: the table that each node held in the world before each event, and the packets that
-- were to be sent, of which the first has number 1
pub record History : Type 0 where
  pub held : NodeId → (time : ℕ) → List Route
  pub sent : List Sent

abbrev pub table_in : NodeId → World → List Route
table_in node w = option_map_or (λ site. site.controller.table) (site_at w node) []

abbrev pub history : List World → List Event → History
history worlds events = record {
  held = λ node time. option_map_or (table_in node) (slice_get worlds time) [];
  sent = sent_by 0 events;
}

-- packet number k has reached a node, as these octets, at an event: it was accepted there; or it had reached a node
-- before whose route at that event led over a link to this one, and had at least two hops to live
pub data Reaches (topology : Topology) (h : History) : (k : ℕ) → NodeId → (packet : List ℕ) → (time : ℕ) → Type 0 where
  sent_here : (k : ℕ) (s : Sent) → slice_get h.sent k ≡ Some s → inject_refusal s.packet ≡ None
      → Reaches topology h (suc k) s.node s.packet s.time
  hops : (k : ℕ) (node : NodeId) (packet : List ℕ) (before time : ℕ) (port : PortNo) (far : LinkEnd)
      → Reaches topology h k node packet before → before ≤ time → 2 ≤ ttl_of packet
      → best (h.held node time) (destination_of packet) ≡ Some (Via port) → peer_of topology node port ≡ Some far
      → Reaches topology h k far.node (onward packet) time

-- it has reached a node by an event
pub record HasReached (topology : Topology) (h : History) (k : ℕ) (node : NodeId) (packet : List ℕ) (by : ℕ) : Type 0 where
  pub time : ℕ
  pub in_time : time ≤ by
  pub reaches : Reaches topology h k node packet time

-- a fate that packet number k can have at an event: at a node that it has reached, by the route there
pub data IsFateAt (topology : Topology) (h : History) (time : ℕ) (k : ℕ) : Fate → Type 0 where
  delivered : (node : NodeId) (packet : List ℕ) → HasReached topology h k node packet time
      → best (h.held node time) (destination_of packet) ≡ Some Local → IsFateAt topology h time k (IsDelivered node packet)
  without_route : (node : NodeId) (packet : List ℕ) → HasReached topology h k node packet time
      → best (h.held node time) (destination_of packet) ≡ None → IsFateAt topology h time k (IsDropped node NoRoute)
  expired : (node : NodeId) (packet : List ℕ) (port : PortNo) → HasReached topology h k node packet time
      → best (h.held node time) (destination_of packet) ≡ Some (Via port) → ttl_of packet ≤ 1
      → IsFateAt topology h time k (IsDropped node Expired)
