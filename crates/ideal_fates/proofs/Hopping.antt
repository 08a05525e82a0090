-- what a packet's journey is by the hop that its node makes

use Rattle.std.proofs.Common.{◌≡◌, ℕ, zero, suc, ◌<◌, ◌≤◌, ◌-◌, nat_le, Bool, true, false, if◌then◌else◌, List, [], ◌∷◌, All, Option, None, Some, refl, sym, subst, ◌∙◌, ap, ap₂, arith, length}
use Rattle.std.specs.Option.{option_map, option_map_or, option_or}
use Rattle.std.proofs.lemmas.List.Elements.{All-head, All-tail}
use Rattle.std.proofs.lemmas.Bool.Decides.{nat_tests}
use Rattle.net_types.specs.declared.node.NodeId.{NodeId}
use Rattle.net_types.specs.declared.node.PortNo.{PortNo}
use Rattle.ipv4_packet.specs.Packet.{IsPacket, ttl_of, with_ttl, canonical, destination_of}
use Rattle.ipv4_packet.proofs.RouteLemmas.{ttl_of-rerouted}
use Rattle.ipv4_forward.specs.Best.{best}
use Rattle.ipv4_forward.specs.declared.table.Next.{Next}
use Rattle.ipv4_forward.specs.declared.table.Next.TheVariants.{Local, Via}
use Rattle.ipv4_forward.specs.declared.table.Route.{Route}
use Rattle.ipv4_forward.specs.declared.outcome.Hop.{Hop}
use Rattle.ipv4_forward.specs.declared.outcome.Hop.TheVariants.{Here, On, NoRoute, Expired}
use Rattle.ipv4_forward.specs.Hop.{hop_by, hop_of, onward}
use Rattle.link_model.specs.declared.record.DropCause.TheVariants.{NoRoute as NoRouteCause, Expired as ExpiredCause}
use Rattle.world_model.specs.Fates.{Fate, IsDelivered, IsDropped, by_route}
use Rattle.world_model.specs.network_model.declared.link.LinkEnd.{LinkEnd}
use Rattle.world_model.specs.Conditions.{IsNode, IsLink, IsTopology}
use Rattle.world_model.specs.Topology.{Topology, Link, same_link_end, peer_among, peer_of}
use Rattle.topology.specs.Readers.{end_pair}
use Rattle.ideal_fates.specs.Endings.{GoesOn}
use Rattle.world_model.specs.Journey.{journey, journey_within, at_peer}

module _ (topology : Topology) (tables : NodeId → List Route) (node : NodeId) (packet : List ℕ) where
  -- behind the link the packet has one less to live
  abbrev pub behind : PortNo → Fate
  behind port = at_peer node (λ far. journey topology tables far (onward packet)) (peer_of topology node port)

  -- the fate of a packet by its node's hop
  abbrev pub fate_by : Hop → Fate
  fate_by Here = IsDelivered node packet
  fate_by NoRoute = IsDropped node NoRouteCause
  fate_by Expired = IsDropped node ExpiredCause
  fate_by (On port) = behind port

  abbrev within : ℕ → Option Next → Fate
  within zero route = by_route node packet (λ port. IsDropped node ExpiredCause) route
  within (suc zero) route = by_route node packet (λ port. IsDropped node ExpiredCause) route
  within (suc (suc ttl)) route =
      by_route node packet
      (λ port. at_peer node (λ far. journey_within topology tables (suc ttl) far (onward packet)) (peer_of topology node port))
      route

  by_its_route : (ttl : ℕ) → journey_within topology tables ttl node packet ≡ within ttl (best (tables node) (destination_of packet))
  by_its_route zero = refl
  by_its_route (suc zero) = refl
  by_its_route (suc (suc ttl)) = refl

  less_to_live : (left : ℕ) → ttl_of packet ≡ suc left → 20 ≤ length packet → ttl_of (onward packet) ≡ left
  less_to_live left e long =
      let less : ttl_of packet - 1 ≡ left = omega (arith, e) in
      ap (λ n. ttl_of (canonical (with_ttl packet n))) less ∙ ttl_of-rerouted packet left long

  at_far : (left : ℕ) (far : Option LinkEnd) → ttl_of (onward packet) ≡ left
      → at_peer node (λ n. journey_within topology tables left n (onward packet)) far ≡ at_peer node (λ n. journey topology tables n (onward packet)) far
  at_far left None e = refl
  at_far left (Some far) e = ap (λ n. journey_within topology tables n far.node (onward packet)) (sym e)

  hop_fate : (ttl : ℕ) (route : Option Next) → ttl_of packet ≡ ttl → 20 ≤ length packet → within ttl route ≡ fate_by (hop_by ttl route)
  hop_fate zero None e long = refl
  hop_fate zero (Some Local) e long = refl
  hop_fate zero (Some (Via port)) e long = refl
  hop_fate (suc zero) None e long = refl
  hop_fate (suc zero) (Some Local) e long = refl
  hop_fate (suc zero) (Some (Via port)) e long = refl
  hop_fate (suc (suc ttl)) None e long = refl
  hop_fate (suc (suc ttl)) (Some Local) e long = refl
  hop_fate (suc (suc ttl)) (Some (Via port)) e long =
      let above : nat_le (suc (suc ttl)) 1 ≡ false = grind (arith, nat_tests) in
      at_far (suc ttl) (peer_of topology node port) (less_to_live (suc ttl) e long)
      ∙ ap (λ (b : Bool). fate_by (if b then Expired else On port)) (sym above)

  -- a journey is what its first hop makes of it
  pub journey_is : 20 ≤ length packet → journey topology tables node packet ≡ fate_by (hop_of (tables node) packet)
  journey_is long =
      by_its_route (ttl_of packet) ∙ hop_fate (ttl_of packet) (best (tables node) (destination_of packet)) refl long

  -- a packet that goes on has two or more to live
  two_or_more : (ttl : ℕ) (route : Option Next) (port : PortNo) → On port ≡ hop_by ttl route → 2 ≤ ttl
  two_or_more ttl None port e = absurd (cc)
  two_or_more ttl (Some Local) port e = absurd (cc)
  two_or_more ttl (Some (Via at)) port e = by (nat_le ttl 1) refl e
    where
      by : (short : Bool) → nat_le ttl 1 ≡ short → On port ≡ (if short then Expired else On at) → 2 ≤ ttl
      by true is e = absurd (cc)
      by false is e = grind (arith, nat_tests)

  pub lives_on : (port : PortNo) → 20 ≤ length packet → On port ≡ hop_of (tables node) packet → ttl_of (onward packet) < ttl_of packet
  lives_on port long e =
      let two = two_or_more (ttl_of packet) (best (tables node) (destination_of packet)) port e in
      let some : ttl_of packet ≡ suc (ttl_of packet - 1) = omega arith in
      omega (arith, less_to_live (ttl_of packet - 1) some long)

-- *The other end of a link* is one of the topology's nodes
far_there : (topology : Topology) (end : LinkEnd) (links : List Link) → All (IsLink topology) links → (far : LinkEnd)
    → peer_among end links ≡ Some far → IsNode topology far.node
far_there topology end [] all far e = absurd (cc)
far_there topology end (link ∷ links) all far e =
    by (same_link_end link.first end) (same_link_end link.second end) e (far_there topology end links (All-tail (IsLink topology) link links all) far)
  where
    head : IsLink topology link
    head = All-head (IsLink topology) link links all

    by : (a b : Bool) → option_or (if a then Some link.second else (if b then Some link.first else None)) (peer_among end links) ≡ Some far
        → (peer_among end links ≡ Some far → IsNode topology far.node) → IsNode topology far.node
    by true b e rest =
        let same : link.second ≡ far = cc in
        subst (λ (x : LinkEnd). IsNode topology x.node) same head.second.0
    by false true e rest =
        let same : link.first ≡ far = cc in
        subst (λ (x : LinkEnd). IsNode topology x.node) same head.first.0
    by false false e rest = rest e

pub peer_there : (topology : Topology) → IsTopology topology → (node : NodeId) (port : PortNo) (far : LinkEnd)
    → peer_of topology node port ≡ Some far → IsNode topology far.node
peer_there topology is node port far e = far_there topology (record { node = node; port = port }) topology.links is.links far e

-- *A hop*, by what it answers
module _ (topology : Topology) (tables : NodeId → List Route) (node : NodeId) (packet : List ℕ) (long : 20 ≤ length packet) where
  told_by : (hop : Hop) → hop ≡ hop_of (tables node) packet → fate_by topology tables node packet hop ≡ journey topology tables node packet
  told_by hop is = ap (fate_by topology tables node packet) is ∙ sym (journey_is topology tables node packet long)

  pub ends_here : Here ≡ hop_of (tables node) packet → IsDelivered node packet ≡ journey topology tables node packet
  ends_here is = told_by Here is

  pub ends_without_route : NoRoute ≡ hop_of (tables node) packet → IsDropped node NoRouteCause ≡ journey topology tables node packet
  ends_without_route is = told_by NoRoute is

  pub ends_expired : Expired ≡ hop_of (tables node) packet → IsDropped node ExpiredCause ≡ journey topology tables node packet
  ends_expired is = told_by Expired is

  at_link : (port : PortNo) → On port ≡ hop_of (tables node) packet → (far : Option LinkEnd) → peer_of topology node port ≡ far
      → at_peer node (λ n. journey topology tables n (onward packet)) far ≡ journey topology tables node packet
  at_link port is far e =
      ap (at_peer node (λ n. journey topology tables n (onward packet))) (sym e) ∙ told_by (On port) is

  pub ends_unlinked : (port : PortNo) → On port ≡ hop_of (tables node) packet → None ≡ option_map end_pair (peer_of topology node port)
      → IsDropped node NoRouteCause ≡ journey topology tables node packet
  ends_unlinked port is none = by (peer_of topology node port) refl none
    where
      by : (far : Option LinkEnd) → peer_of topology node port ≡ far → None ≡ option_map end_pair far
          → IsDropped node NoRouteCause ≡ journey topology tables node packet
      by None e none = at_link port is None e
      by (Some far) e none = absurd (cc)

  pub goes_on : IsTopology topology → (port : PortNo) → On port ≡ hop_of (tables node) packet → (far : NodeId) (behind : PortNo)
      → Some (far, behind) ≡ option_map end_pair (peer_of topology node port) → (new : List ℕ) → new ≡ onward packet → IsPacket new
      → GoesOn topology tables node packet new far
  goes_on made port is far behind found new same is_packet = by (peer_of topology node port) refl found
    where
      by : (end : Option LinkEnd) → peer_of topology node port ≡ end → Some (far, behind) ≡ option_map end_pair end
          → GoesOn topology tables node packet new far
      by None e found = absurd (cc)
      by (Some end) e found =
          let at : end.node ≡ far = ap (λ o. option_map_or (λ (p : NodeId × PortNo). p.0) o far) (sym found) in
          record {
            onward = ap₂ (λ n p. journey topology tables n p) (sym at) same ∙ at_link port is (Some end) e;
            there = subst (IsNode topology) at (peer_there topology made node port end e);
            packet = is_packet;
            less = subst (λ p. ttl_of p < ttl_of packet) (sym same) (lives_on topology tables node packet port long is);
          }
