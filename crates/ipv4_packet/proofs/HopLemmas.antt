-- flows of packets that a router sends on

use Rattle.std.proofs.Common.{◌≡◌, ℕ, ◌-◌, ◌<◌, Bool, true, false, not, cond, eqb, leb, List, ◌∷◌, Option, Some, None, refl, arith}
use mathlib.Core.Bool.{◌&&◌}
use Rattle.net_types.specs.declared.prefix.Addr.{Addr}
use Rattle.std.proofs.lemmas.Bool.Decides.{nat_tests}
use Rattle.octet_fields.specs.Fields.{u16_at}
use Rattle.ipv4_packet.specs.Packet.{tos_of, ttl_of, protocol_of, source_of, destination_of, with_ttl, canonical, IsPacket}
use Rattle.ipv4_packet.proofs.HeaderLemmas.{on_header}
use Rattle.ipv4_packet.specs.declared.flow.FlowKind.{FlowKind}
use Rattle.ipv4_packet.specs.declared.flow.FlowKind.TheVariants.{One as ConnectionKind, Two as HostsKind}
use Rattle.ipv4_packet.specs.declared.flow.FlowId.{FlowId}
use Rattle.ipv4_packet.specs.declared.flow.FlowId.TheVariants.{One, Two}
use Rattle.ipv4_packet.specs.Flow.{shows_ports, flow_of, next_hop_of}

connection_hop : (shows : Bool) (tos ttl protocol : ℕ) (source destination : Addr) (source_port destination_port : ℕ) (flow : FlowId) → 1 < ttl
    → cond (not (eqb ttl 0) && shows) (Some (One tos ttl protocol source destination source_port destination_port)) None ≡ Some flow
    → next_hop_of flow ≡ cond (not (eqb (ttl - 1) 0) && shows) (Some (One tos (ttl - 1) protocol source destination source_port destination_port)) None
connection_hop true tos ttl protocol source destination source_port destination_port flow alive is =
    let now : eqb ttl 0 ≡ false = grind (arith, nat_tests) in
    let then : eqb (ttl - 1) 0 ≡ false = grind (arith, nat_tests) in
    let more : leb ttl 1 ≡ false = grind (arith, nat_tests) in
    let same : ◌≡◌ {A = Option FlowId} (Some (One tos ttl protocol source destination source_port destination_port)) (Some flow) = rw now at is in
    let inside : One tos ttl protocol source destination source_port destination_port ≡ flow = cc in
    rw (← inside) (rw (more, then) refl)
connection_hop false tos ttl protocol source destination source_port destination_port flow alive is =
    let now : eqb ttl 0 ≡ false = grind (arith, nat_tests) in
    let same : ◌≡◌ {A = Option FlowId} None (Some flow) = rw now at is in
    let never : ⊥ = cc in absurd never

hosts_hop : (ttl : ℕ) (source destination : Addr) (flow : FlowId) → 1 < ttl → cond (not (eqb ttl 0)) (Some (Two ttl source destination)) None ≡ Some flow
    → next_hop_of flow ≡ cond (not (eqb (ttl - 1) 0)) (Some (Two (ttl - 1) source destination)) None
hosts_hop ttl source destination flow alive is =
    let now : eqb ttl 0 ≡ false = grind (arith, nat_tests) in
    let then : eqb (ttl - 1) 0 ≡ false = grind (arith, nat_tests) in
    let more : leb ttl 1 ≡ false = grind (arith, nat_tests) in
    let same : ◌≡◌ {A = Option FlowId} (Some (Two ttl source destination)) (Some flow) = rw now at is in
    let inside : Two ttl source destination ≡ flow = cc in
    rw (← inside) (rw (more, then) refl)

-- the flow of a packet that goes on is the flow one hop further
pub next_hop_of-flow_of : (kind : FlowKind) (packet : List ℕ) (flow : FlowId) → IsPacket packet → 1 < ttl_of packet → flow_of kind packet ≡ Some flow → next_hop_of flow ≡ flow_of kind (canonical (with_ttl packet (ttl_of packet - 1)))
next_hop_of-flow_of ConnectionKind packet flow known =
    on_header (λ p. 1 < ttl_of p → flow_of ConnectionKind p ≡ Some flow → next_hop_of flow ≡ flow_of ConnectionKind (canonical (with_ttl p (ttl_of p - 1))))
    (λ a b c d e f g h i j k l m n o p q r s t rest. let octets = a ∷ b ∷ c ∷ d ∷ e ∷ f ∷ g ∷ h ∷ i ∷ j ∷ k ∷ l ∷ m ∷ n ∷ o ∷ p ∷ q ∷ r ∷ s ∷ t ∷ rest in connection_hop (shows_ports octets) (tos_of octets) (ttl_of octets) (protocol_of octets) (source_of octets) (destination_of octets) (u16_at octets 20) (u16_at octets 22) flow) packet known.has_header
next_hop_of-flow_of HostsKind packet flow known =
    on_header (λ p. 1 < ttl_of p → flow_of HostsKind p ≡ Some flow → next_hop_of flow ≡ flow_of HostsKind (canonical (with_ttl p (ttl_of p - 1))))
    (λ a b c d e f g h i j k l m n o p q r s t rest. let octets = a ∷ b ∷ c ∷ d ∷ e ∷ f ∷ g ∷ h ∷ i ∷ j ∷ k ∷ l ∷ m ∷ n ∷ o ∷ p ∷ q ∷ r ∷ s ∷ t ∷ rest in hosts_hop (ttl_of octets) (source_of octets) (destination_of octets) flow) packet known.has_header
