-- the other end that a network keeps of a link is that of its topology

use Rattle.std.proofs.Common.{◌≡◌, ℕ, zero, suc, ◌+◌, ◌-◌, ◌≤◌, ◌<◌, List, [], ◌∷◌, length, map, slice_index_or, None, subst, arith}
use Rattle.net_types.specs.declared.node.NodeId.{NodeId}
use Rattle.net_types.specs.declared.node.PortNo.{PortNo}
use Rattle.world_model.specs.Controller.{Controller}
use Rattle.world_model.specs.Topology.{Topology, peer_of}
use Rattle.world.specs.declared.site.Site.{Site as Node}
use Rattle.world.specs.declared.world.World.{World as Network}
use Rattle.world.specs.Network.{IsNodeIn, peers_in}
use Rattle.law_world_pace.specs.Running.{ArePeersOf, HavePeers}
use Rattle.world.specs.Running.{Runs}

kept_at : {C : Type 0} (t : Topology) (number k : ℕ) (items : List (Node C)) (d : Node C) → HavePeers t number (map peers_in items) → k < length items
    → ArePeersOf t (number + k) (slice_index_or items k d).peers
kept_at t number k [] d h low = absurd (omega (arith, low))
kept_at t number zero (node ∷ nodes) d h low = subst (λ n. ArePeersOf t n node.peers) (omega arith) h.0
kept_at t number (suc k) (node ∷ nodes) d h low = subst (λ n. ArePeersOf t n (slice_index_or nodes k d).peers) (omega arith) (kept_at t (suc number) k nodes d h.1 (omega (arith, low)))

pub far_end_is : {C : Type 0} (seen : C → Controller) (t : Topology) (n : Network C) (node : NodeId) (port : PortNo) (d : Node C) → Runs seen t n → IsNodeIn n node
    → 1 ≤ port.0 → port.0 ≤ 8 → slice_index_or (slice_index_or n.sites.items (node.0 - 1) d).peers port.0 None ≡ peer_of t node port
far_end_is seen t n node port d r is low high =
    let there : 1 + (node.0 - 1) ≡ node.0 = omega (arith, is.0) in
    subst (λ k. ArePeersOf t k (slice_index_or n.sites.items (node.0 - 1) d).peers) there (kept_at t 1 (node.0 - 1) n.sites.items d r.peers (omega (arith, is.0, is.1))) port low high
