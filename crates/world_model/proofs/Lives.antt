-- worked runs of a network, as far as they unfold

use Rattle.std.proofs.Common.{◌≡◌, ℕ, List, [], ◌∷◌, length, refl}
use Rattle.network_model.specs.net_types.declared.node.NodeId.{NodeId}
use Rattle.network_model.specs.ipv4_forward.declared.table.Next.TheVariants.{Local, Via}
use Rattle.network_model.specs.ipv4_forward.declared.table.Route.{Route}
use Rattle.network_model.specs.link_model.declared.record.DropCause.TheVariants.{Expired}
use Rattle.network_model.specs.link_model.declared.record.Record.TheVariants.{Delivered, Dropped, Refused}
use Rattle.network_model.specs.link_model.declared.record.Refusal.TheVariants.{Short}
use Rattle.world_model.specs.network_model.declared.event.Event.TheVariants.{Inject}
use Rattle.world_model.specs.Topology.{Topology, Node, empty_topology, new_node, policy_of}
use Rattle.world_model.specs.World.{World, opened}
use Rattle.world_model.specs.Run.{next, world_after, round}
use Rattle.world_model.specs.Fates.{IsDropped}
use Rattle.world_model.specs.Journey.{journey}

abbrev pub node : ℕ → NodeId
node n = record { 0 = n }

abbrev route : Route
route = record { prefix = record { addr = record { 0 = 167772160 }; len = 8 }; next = Local }

abbrev onward : Route
onward = record { prefix = record { addr = record { 0 = 167772160 }; len = 8 }; next = Via (record { 0 = 1 }) }

abbrev named : (letter address : ℕ) → List Route → Node
named letter address routes = record (new_node (letter ∷ []) (record { 0 = address })) { routes = routes }

-- one node, which is the destination of everything in 10/8
abbrev one : Topology
one = record empty_topology { nodes = named 97 167772417 (route ∷ []) ∷ [] }

-- two nodes and the link between them
abbrev pub two : Topology
two = record empty_topology {
  nodes = named 97 167772417 (onward ∷ []) ∷ named 98 167772929 (route ∷ []) ∷ [];
  links = record { first = record { node = node 1; port = record { 0 = 1 } }; second = record { node = node 2; port = record { 0 = 1 } } } ∷ [];
}

-- a packet of UDP from 10.0.1.1 to 10.0.3.1 with this Time To Live and checksum
abbrev packet : (ttl high low : ℕ) → List ℕ
packet ttl high low =
    69 ∷ 0 ∷ 0 ∷ 28 ∷ 0 ∷ 1 ∷ 0 ∷ 0 ∷ ttl ∷ 17 ∷ high ∷ low ∷ 10 ∷ 0 ∷ 1 ∷ 1 ∷ 10 ∷ 0 ∷ 3 ∷ 1
    ∷ 19 ∷ 137 ∷ 19 ∷ 138 ∷ 0 ∷ 8 ∷ 0 ∷ 0 ∷ []

-- *One node and one packet*: it is delivered there, and counted
abbrev delivered : World
delivered = next one (opened (policy_of one) one) (Inject (node 1) (packet 4 158 207))

delivered_is : delivered.notes.records ≡ Delivered (node 1) 1 (packet 4 158 207) ∷ []
delivered_is = refl

counted_is : (delivered.sent ≡ 1) × (delivered.events ≡ 1) × (delivered.tally.delivered ≡ 1) × (delivered.tally.losses ≡ 0)
counted_is = (refl, refl, refl, refl)

-- no packet at all is refused, under the next number
abbrev refused : World
refused = next one delivered (Inject (node 1) [])

refused_is : (refused.notes.records ≡ Refused (node 1) 2 Short ∷ []) × (refused.sent ≡ 2) × (refused.tally.delivered ≡ 1) × (refused.tally.refused ≡ 1)
refused_is = (refl, refl, refl, refl)

-- *Two nodes, and a packet whose Time To Live ends* at the first
expired_is : (next two (opened (policy_of two) two) (Inject (node 1) (packet 1 161 207))).notes.records
    ≡ Dropped (node 1) 1 Expired ∷ []
expired_is = refl

-- its journey, and that of one with a hop more to live, which crosses the link
expired_journey : journey two (λ n. onward ∷ []) (node 1) (packet 1 161 207) ≡ IsDropped (node 1) Expired
expired_journey = refl

-- *Instances* are drawn node by node, the controller's first, then its ports', then the switch's
instances_are : (opened (policy_of two) two).numbers.instances ≡ 6
instances_are = refl

-- *A round* of two nodes with a link carries each of six queues, and each counts as an event
round_is : length (round (opened (policy_of two) two)) ≡ 6
round_is = refl

empty_round : (world_after two (opened (policy_of two) two) (round (opened (policy_of two) two))).events ≡ 6
empty_round = refl
