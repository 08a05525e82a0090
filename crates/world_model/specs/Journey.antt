-- What hop-by-hop forwarding makes of a packet over given tables, in a network without flows, cells or labels
-- (RFC 1812 5.2.1 and 5.3.1)

use Rattle.std.specs.Prelude.{ℕ, zero, suc, List, Option, None, Some}
use Rattle.network_model.specs.net_types.declared.node.NodeId.{NodeId}
use Rattle.network_model.specs.ipv4_packet.Packet.{ttl_of, destination_of}
use Rattle.network_model.specs.ipv4_forward.Best.{best}
use Rattle.network_model.specs.ipv4_forward.Hop.{onward}
use Rattle.network_model.specs.ipv4_forward.declared.table.Route.{Route}
use Rattle.network_model.specs.link_model.declared.record.DropCause.TheVariants.{NoRoute, Expired}
use Rattle.world_model.specs.Fates.{Fate, IsDropped, by_route}
use Rattle.network_model.specs.declared.link.LinkEnd.{LinkEnd}
use Rattle.network_model.specs.Topology.{Topology, peer_of}

-- at the other end of a link; a port that a route names is linked
abbrev pub at_peer : NodeId → (arrived : NodeId → Fate) → Option LinkEnd → Fate
at_peer node arrived None = IsDropped node NoRoute
at_peer node arrived (Some far) = arrived far.node

-- the journey of a packet with this Time To Live, by recursion on it
abbrev pub journey_within : Topology → (tables : NodeId → List Route) → (ttl : ℕ) → NodeId → (packet : List ℕ) → Fate
journey_within topology tables zero node packet =
    by_route node packet (λ port. IsDropped node Expired) (best (tables node) (destination_of packet))
journey_within topology tables (suc zero) node packet =
    by_route node packet (λ port. IsDropped node Expired) (best (tables node) (destination_of packet))
journey_within topology tables (suc (suc ttl)) node packet =
    by_route node packet
    (λ port. at_peer node (λ far. journey_within topology tables (suc ttl) far (onward packet)) (peer_of topology node port))
    (best (tables node) (destination_of packet))

-- the journey of a packet from this node
abbrev pub journey : Topology → (tables : NodeId → List Route) → NodeId → (packet : List ℕ) → Fate
journey topology tables node packet = journey_within topology tables (ttl_of packet) node packet
