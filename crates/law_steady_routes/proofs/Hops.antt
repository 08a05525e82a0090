-- a packet's journey by the best route of the node where it is

use Rattle.std.proofs.Common.{◌≡◌, ℕ, zero, suc, ◌≤◌, List, ◌∷◌, None, Some, refl, sym, ◌∙◌, ap, arith}
use Rattle.claims_model.specs.world_model.Words.{NodeId, PortNo, ttl_of, destination_of, best, onward, Local, Via, Fate, IsDelivered, IsDropped, by_route, Topology, journey, journey_within, at_peer}
use Rattle.claims_model.specs.world_model.ipv4_forward.declared.table.Route.{Route}
use Rattle.claims_model.specs.world_model.link_model.declared.record.DropCause.TheVariants.{NoRoute, Expired}
use Rattle.claims_model.specs.world_model.network_model.declared.link.LinkEnd.{LinkEnd}
use Rattle.claims_model.specs.world_model.Topology.{peer_of}

-- a packet that goes on has one less to live
less_to_live : (packet : List ℕ) (left : ℕ) → ttl_of packet ≡ suc left → ttl_of (onward packet) ≡ left
less_to_live (a ∷ b ∷ c ∷ d ∷ e ∷ f ∷ g ∷ h ∷ ttl ∷ octets) left is = omega (arith, is)
less_to_live octets left is = absurd (omega (arith, is))

module _ (topology : Topology) (tables : NodeId → List Route) (node : NodeId) (packet : List ℕ) where
  -- *It ends here*
  pub ends_delivered : best (tables node) (destination_of packet) ≡ Some Local → journey topology tables node packet ≡ IsDelivered node packet
  ends_delivered route = by (ttl_of packet)
    where
      by : (ttl : ℕ) → journey_within topology tables ttl node packet ≡ IsDelivered node packet
      by zero = ap (by_route node packet _) route
      by (suc zero) = ap (by_route node packet _) route
      by (suc (suc ttl)) = ap (by_route node packet _) route

  pub ends_without_route : best (tables node) (destination_of packet) ≡ None → journey topology tables node packet ≡ IsDropped node NoRoute
  ends_without_route route = by (ttl_of packet)
    where
      by : (ttl : ℕ) → journey_within topology tables ttl node packet ≡ IsDropped node NoRoute
      by zero = ap (by_route node packet _) route
      by (suc zero) = ap (by_route node packet _) route
      by (suc (suc ttl)) = ap (by_route node packet _) route

  module _ (port : PortNo) (route : best (tables node) (destination_of packet) ≡ Some (Via port)) where
    pub ends_expired : ttl_of packet ≤ 1 → journey topology tables node packet ≡ IsDropped node Expired
    ends_expired short = by (ttl_of packet) short
      where
        by : (ttl : ℕ) → ttl ≤ 1 → journey_within topology tables ttl node packet ≡ IsDropped node Expired
        by zero low = ap (by_route node packet _) route
        by (suc zero) low = ap (by_route node packet _) route
        by (suc (suc ttl)) low = absurd (omega (arith, low))

    -- *It goes on* from the other end of the link
    pub goes_on : (far : LinkEnd) → 2 ≤ ttl_of packet → peer_of topology node port ≡ Some far
        → journey topology tables node packet ≡ journey topology tables far.node (onward packet)
    goes_on far lives peer = by (ttl_of packet) refl lives
      where
        by : (ttl : ℕ) → ttl_of packet ≡ ttl → 2 ≤ ttl → journey_within topology tables ttl node packet ≡ journey topology tables far.node (onward packet)
        by zero is low = absurd (omega (arith, low))
        by (suc zero) is low = absurd (omega (arith, low))
        by (suc (suc ttl)) is low =
            let then_far : PortNo → Fate = λ p. at_peer node (λ n. journey_within topology tables (suc ttl) n (onward packet)) (peer_of topology node p) in
            ap (by_route node packet then_far) route
            ∙ ap (at_peer node (λ n. journey_within topology tables (suc ttl) n (onward packet))) peer
            ∙ ap (λ n. journey_within topology tables n far.node (onward packet)) (sym (less_to_live packet (suc ttl) is))
