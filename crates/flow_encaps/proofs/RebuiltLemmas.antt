-- what flow and payload make

use Rattle.std.proofs.Common.{◌≡◌, ◌≢◌, ℕ, zero, suc, ◌+◌, ◌*◌, ◌/◌, ◌%◌, ◌≤◌, ◌<◌, true, false, not, eqb, leb, ltb, IsTrue, List, [], ◌∷◌, ◌++◌, length, take, drop, Some, None, refl, ap, sym, ◌∙◌, arith, lit<}
use mathlib.Core.Bool.{◌&&◌}
use Rattle.std.proofs.lemmas.Bool.Decides.{nat_tests}
use Rattle.std.proofs.lemmas.List.{take-append-drop}
use Rattle.std.proofs.lemmas.Nat.{from_be_bytes-to_be_bytes_2, from_be_bytes-to_be_bytes_4, be_bytes_2}
use Rattle.ipv4_packet.specs.net_types.declared.prefix.Addr.{Addr}
use Rattle.octet_fields.specs.Fields.{u16_at}
use Rattle.ipv4_packet.specs.Packet.{source_of, destination_of, with_checksum, canonical, canonical_checksum}
use Rattle.octet_fields.proofs.FieldLemmas.{AreOctets}
use Rattle.ipv4_packet.proofs.HeaderLemmas.{on_header, IsPacket-canonical}
use Rattle.ipv4_packet.proofs.RouteLemmas.{canonical-canonical}
use Rattle.ipv4_packet.specs.declared.flow.FlowKind.{FlowKind}
use Rattle.ipv4_packet.specs.declared.flow.FlowKind.TheVariants.{One as ConnectionKind, Two as HostsKind}
use Rattle.ipv4_packet.specs.declared.flow.FlowId.{FlowId}
use Rattle.ipv4_packet.specs.declared.flow.FlowId.TheVariants.{One, Two}
use Rattle.ipv4_packet.specs.Flow.{kind_of, has_ports, IsFlow}
use Rattle.ipv4_packet.specs.Identifier.{FitsFields}
use Rattle.flow_encaps.specs.declared.default.EncapsFault.TheVariants.{Checksum}
use Rattle.flow_encaps.specs.Labelled.{checksum_at_ttl_zero, Carries, rebuilt, head_size, left_out, has_zeros, said_length, said_checksum, layout_fault, unwrap_fault, HasLayout}

-- a claim about every payload of at least 8, or 12, octets follows from the claim about one that is
-- written out
on_eight : (P : List ℕ → Type 0) → ((a b c d e f g h : ℕ) (rest : List ℕ) → P (a ∷ b ∷ c ∷ d ∷ e ∷ f ∷ g ∷ h ∷ rest)) → (octets : List ℕ) → 8 ≤ length octets → P octets
on_eight P claim (a ∷ b ∷ c ∷ d ∷ e ∷ f ∷ g ∷ h ∷ rest) long = claim a b c d e f g h rest
on_eight P claim _ long = absurd (omega arith)

on_twelve : (P : List ℕ → Type 0) → ((a b c d e f g h i j k l : ℕ) (rest : List ℕ) → P (a ∷ b ∷ c ∷ d ∷ e ∷ f ∷ g ∷ h ∷ i ∷ j ∷ k ∷ l ∷ rest)) → (octets : List ℕ) → 12 ≤ length octets → P octets
on_twelve P claim (a ∷ b ∷ c ∷ d ∷ e ∷ f ∷ g ∷ h ∷ i ∷ j ∷ k ∷ l ∷ rest) long = claim a b c d e f g h i j k l rest
on_twelve P claim _ long = absurd (omega arith)

-- length and parts of what is rebuilt
pub length-rebuilt : (flow : FlowId) (payload : List ℕ) → head_size (kind_of flow) ≤ length payload → length (rebuilt flow payload) ≡ length payload + left_out (kind_of flow)
length-rebuilt (One tos ttl protocol source destination source_port destination_port) payload =
    on_eight (λ p. length (rebuilt (One tos ttl protocol source destination source_port destination_port) p) ≡ length p + 16) (λ a b c d e f g h rest. omega arith) payload
length-rebuilt (Two ttl source destination) payload =
    on_twelve (λ p. length (rebuilt (Two ttl source destination) p) ≡ length p + 8) (λ a b c d e f g h i j k l rest. omega arith) payload

pub long-rebuilt : (flow : FlowId) (payload : List ℕ) → head_size (kind_of flow) ≤ length payload → 20 ≤ length (rebuilt flow payload)
long-rebuilt (One tos ttl protocol source destination source_port destination_port) payload long =
    omega (arith, length-rebuilt (One tos ttl protocol source destination source_port destination_port) payload long)
long-rebuilt (Two ttl source destination) payload long = omega (arith, length-rebuilt (Two ttl source destination) payload long)

-- the rest is the payload's own
pub drop-rebuilt : (flow : FlowId) (payload : List ℕ) → head_size (kind_of flow) ≤ length payload → drop (head_size (kind_of flow) + left_out (kind_of flow)) (rebuilt flow payload) ≡ drop (head_size (kind_of flow)) payload
drop-rebuilt (One tos ttl protocol source destination source_port destination_port) =
    on_eight (λ p. drop 24 (rebuilt (One tos ttl protocol source destination source_port destination_port) p) ≡ drop 8 p) (λ a b c d e f g h rest. refl)
drop-rebuilt (Two ttl source destination) = on_twelve (λ p. drop 20 (rebuilt (Two ttl source destination) p) ≡ drop 12 p) (λ a b c d e f g h i j k l rest. refl)

-- the checksum of a header alone, and with what stands behind it
canonical-front_24 : (packet : List ℕ) → 20 ≤ length packet → canonical (take 24 packet) ++ drop 24 packet ≡ canonical packet
canonical-front_24 = on_header (λ p. canonical (take 24 p) ++ drop 24 p ≡ canonical p)
    (λ a b c d e f g h i j k l m n o p q r s t rest. ap (λ (part : List ℕ). a ∷ b ∷ c ∷ d ∷ e ∷ f ∷ g ∷ h ∷ i ∷ j ∷ canonical_checksum (a ∷ b ∷ c ∷ d ∷ e ∷ f ∷ g ∷ h ∷ i ∷ j ∷ k ∷ l ∷ m ∷ n ∷ o ∷ p ∷ q ∷ r ∷ s ∷ t ∷ rest) / 256 % 256 ∷ canonical_checksum (a ∷ b ∷ c ∷ d ∷ e ∷ f ∷ g ∷ h ∷ i ∷ j ∷ k ∷ l ∷ m ∷ n ∷ o ∷ p ∷ q ∷ r ∷ s ∷ t ∷ rest) % 256 ∷ m ∷ n ∷ o ∷ p ∷ q ∷ r ∷ s ∷ t ∷ part) (take-append-drop 4 rest))

pub canonical-front : (kind : FlowKind) (packet : List ℕ) → 20 ≤ length packet → canonical (take (head_size kind + left_out kind) packet) ++ drop (head_size kind + left_out kind) packet ≡ canonical packet
canonical-front ConnectionKind = canonical-front_24
canonical-front HostsKind = on_header (λ p. canonical (take 20 p) ++ drop 20 p ≡ canonical p) (λ a b c d e f g h i j k l m n o p q r s t rest. refl)

pub checksum_at_ttl_zero-front : (kind : FlowKind) (packet : List ℕ) → 20 ≤ length packet → checksum_at_ttl_zero (take (head_size kind + left_out kind) packet) ≡ checksum_at_ttl_zero packet
checksum_at_ttl_zero-front ConnectionKind = on_header (λ p. checksum_at_ttl_zero (take 24 p) ≡ checksum_at_ttl_zero p) (λ a b c d e f g h i j k l m n o p q r s t rest. refl)
checksum_at_ttl_zero-front HostsKind = on_header (λ p. checksum_at_ttl_zero (take 20 p) ≡ checksum_at_ttl_zero p) (λ a b c d e f g h i j k l m n o p q r s t rest. refl)

pub checksum_at_ttl_zero-canonical : (packet : List ℕ) → 20 ≤ length packet → checksum_at_ttl_zero (canonical packet) ≡ checksum_at_ttl_zero packet
checksum_at_ttl_zero-canonical = on_header (λ p. checksum_at_ttl_zero (canonical p) ≡ checksum_at_ttl_zero p) (λ a b c d e f g h i j k l m n o p q r s t rest. refl)

pub checksum_at_ttl_zero-with_checksum : (packet : List ℕ) (checksum : ℕ) → 20 ≤ length packet → checksum_at_ttl_zero (with_checksum packet checksum) ≡ checksum_at_ttl_zero packet
checksum_at_ttl_zero-with_checksum packet checksum = on_header (λ p. checksum_at_ttl_zero (with_checksum p checksum) ≡ checksum_at_ttl_zero p) (λ a b c d e f g h i j k l m n o p q r s t rest. refl) packet

pub canonical-with_checksum : (packet : List ℕ) (checksum : ℕ) → 20 ≤ length packet → canonical (with_checksum packet checksum) ≡ canonical packet
canonical-with_checksum packet checksum = on_header (λ p. canonical (with_checksum p checksum) ≡ canonical p) (λ a b c d e f g h i j k l m n o p q r s t rest. refl) packet

-- the answers of the tests
pub layout_fault-passed : (kind : FlowKind) (payload : List ℕ) → HasLayout kind payload → layout_fault kind payload ≡ None
layout_fault-passed kind payload known =
    let head : ltb (length payload) (head_size kind) ≡ false = let fact = known.head in grind (arith, nat_tests) in
    let zeros : has_zeros kind payload ≡ true = let fact = known.zeros in grind (arith, nat_tests) in
    let own : eqb (said_length kind payload) (length payload + left_out kind) ≡ true = let fact = known.own_length in grind (arith, nat_tests) in
    let fits : leb (said_length kind payload) 1500 ≡ true = let fact = known.fits_mtu in grind (arith, nat_tests) in
    rw (head, zeros, own, fits) refl

pub unwrap_fault-checksum : (flow : FlowId) (payload : List ℕ) → layout_fault (kind_of flow) payload ≡ None → said_checksum (kind_of flow) payload ≢ checksum_at_ttl_zero (rebuilt flow payload) → unwrap_fault flow payload ≡ Some Checksum
unwrap_fault-checksum flow payload layout differs =
    let test : eqb (said_checksum (kind_of flow) payload) (checksum_at_ttl_zero (rebuilt flow payload)) ≡ false = grind (arith, nat_tests) in
    rw (layout, test) refl

pub unwrap_fault-none : (flow : FlowId) (payload : List ℕ) → layout_fault (kind_of flow) payload ≡ None → said_checksum (kind_of flow) payload ≡ checksum_at_ttl_zero (rebuilt flow payload) → unwrap_fault flow payload ≡ None
unwrap_fault-none flow payload layout same =
    let test : eqb (said_checksum (kind_of flow) payload) (checksum_at_ttl_zero (rebuilt flow payload)) ≡ true = grind (arith, nat_tests) in
    rw (layout, test) refl

-- from a payload to its packet
pub AreOctets-pair : (high low : ℕ) → high < 256 → low < 256 → AreOctets (high ∷ low ∷ [])
AreOctets-pair high low is_high is_low zero = is_high
AreOctets-pair high low is_high is_low (suc zero) = is_low
AreOctets-pair high low is_high is_low (suc (suc place)) = lit< tt

connection_carried : (tos ttl protocol : ℕ) (source destination : Addr) (source_port destination_port : ℕ) → FitsFields (One tos ttl protocol source destination source_port destination_port) → 0 < ttl → IsTrue (has_ports protocol)
    → (payload : List ℕ) → 8 ≤ length payload → AreOctets payload → HasLayout ConnectionKind payload
    → said_checksum ConnectionKind payload ≡ checksum_at_ttl_zero (rebuilt (One tos ttl protocol source destination source_port destination_port) payload)
    → AreOctets (canonical (rebuilt (One tos ttl protocol source destination source_port destination_port) payload))
    → Carries (One tos ttl protocol source destination source_port destination_port) (canonical (rebuilt (One tos ttl protocol source destination source_port destination_port) payload)) payload
connection_carried tos ttl protocol source destination source_port destination_port fits alive ports =
    on_eight (λ p. AreOctets p → HasLayout ConnectionKind p → said_checksum ConnectionKind p ≡ checksum_at_ttl_zero (rebuilt (One tos ttl protocol source destination source_port destination_port) p)
    → AreOctets (canonical (rebuilt (One tos ttl protocol source destination source_port destination_port) p))
    → Carries (One tos ttl protocol source destination source_port destination_port) (canonical (rebuilt (One tos ttl protocol source destination source_port destination_port) p)) p)
    (λ a b c d e f g h rest small layout checksum octets.
    let flow = One tos ttl protocol source destination source_port destination_port in
    let packet = rebuilt flow (a ∷ b ∷ c ∷ d ∷ e ∷ f ∷ g ∷ h ∷ rest) in
    let said = be_bytes_2 (g ∷ h ∷ []) (checksum_at_ttl_zero packet) refl (AreOctets-pair g h (small 6) (small 7)) (sym checksum) in
    let source_is = from_be_bytes-to_be_bytes_4 source.0 fits.3 in
    let destination_is = from_be_bytes-to_be_bytes_4 destination.0 fits.4 in
    let source_port_is = from_be_bytes-to_be_bytes_2 source_port fits.5 in
    let destination_port_is = from_be_bytes-to_be_bytes_2 destination_port fits.6 in
    let shown : not (eqb ttl 0) && (has_ports protocol && (eqb ((e * 256 + f) % 8192) 0 && leb 24 (length packet))) ≡ true =
    let fact = layout.zeros in grind (arith, nat_tests) in
    let read : One tos ttl protocol (source_of packet) (destination_of packet) (u16_at packet 20) (u16_at packet 22) ≡ flow =
    λ i. One tos ttl protocol (record { 0 = source_is i }) (record { 0 = destination_is i }) (source_port_is i) (destination_port_is i) in
    record {
      octets = octets;
      is_packet = IsPacket-canonical packet (omega arith) (omega (arith, layout.own_length, layout.fits_mtu)) refl (omega (arith, layout.own_length));
      is_canonical = canonical-canonical packet (omega arith);
      of_flow = rw shown (ap (λ (x : FlowId). Some x) read);
      filled = ap (λ (bytes : List ℕ). a ∷ b ∷ c ∷ d ∷ e ∷ f ∷ (bytes ++ rest)) (sym said);
    })

hosts_carried : (ttl : ℕ) (source destination : Addr) → FitsFields (Two ttl source destination) → 0 < ttl
    → (payload : List ℕ) → 12 ≤ length payload → AreOctets payload → HasLayout HostsKind payload
    → said_checksum HostsKind payload ≡ checksum_at_ttl_zero (rebuilt (Two ttl source destination) payload)
    → AreOctets (canonical (rebuilt (Two ttl source destination) payload))
    → Carries (Two ttl source destination) (canonical (rebuilt (Two ttl source destination) payload)) payload
hosts_carried ttl source destination fits alive =
    on_twelve (λ p. AreOctets p → HasLayout HostsKind p → said_checksum HostsKind p ≡ checksum_at_ttl_zero (rebuilt (Two ttl source destination) p)
    → AreOctets (canonical (rebuilt (Two ttl source destination) p))
    → Carries (Two ttl source destination) (canonical (rebuilt (Two ttl source destination) p)) p)
    (λ a b c d e f g h i j k l rest small layout checksum octets.
    let flow = Two ttl source destination in
    let packet = rebuilt flow (a ∷ b ∷ c ∷ d ∷ e ∷ f ∷ g ∷ h ∷ i ∷ j ∷ k ∷ l ∷ rest) in
    let said = be_bytes_2 (k ∷ l ∷ []) (checksum_at_ttl_zero packet) refl (AreOctets-pair k l (small 10) (small 11)) (sym checksum) in
    let source_is = from_be_bytes-to_be_bytes_4 source.0 fits.1 in
    let destination_is = from_be_bytes-to_be_bytes_4 destination.0 fits.2 in
    let first : a ≡ 0 = let fact = layout.zeros in grind (arith, nat_tests) in
    let ninth : i ≡ 0 = let fact = layout.zeros in grind (arith, nat_tests) in
    let living : not (eqb ttl 0) ≡ true = grind (arith, nat_tests) in
    let read : Two ttl (source_of packet) (destination_of packet) ≡ flow =
    λ t. Two ttl (record { 0 = source_is t }) (record { 0 = destination_is t }) in
    record {
      octets = octets;
      is_packet = IsPacket-canonical packet (omega arith) (omega (arith, layout.own_length, layout.fits_mtu)) refl (omega (arith, layout.own_length));
      is_canonical = canonical-canonical packet (omega arith);
      of_flow = rw living (ap (λ (x : FlowId). Some x) read);
      filled =
          ap (λ (octet : ℕ). octet ∷ b ∷ c ∷ d ∷ e ∷ f ∷ g ∷ h ∷ i ∷ j ∷ k ∷ l ∷ rest) first
          ∙ ap (λ (octet : ℕ). 0 ∷ b ∷ c ∷ d ∷ e ∷ f ∷ g ∷ h ∷ octet ∷ j ∷ k ∷ l ∷ rest) ninth
          ∙ ap (λ (bytes : List ℕ). 0 ∷ b ∷ c ∷ d ∷ e ∷ f ∷ g ∷ h ∷ 0 ∷ j ∷ (bytes ++ rest)) (sym said);
    })

-- a payload that passes each test is the packet that it makes with the flow
pub Carries-rebuilt : (flow : FlowId) (payload : List ℕ) → FitsFields flow → IsFlow flow → AreOctets payload → HasLayout (kind_of flow) payload → said_checksum (kind_of flow) payload ≡ checksum_at_ttl_zero (rebuilt flow payload) → AreOctets (canonical (rebuilt flow payload)) → Carries flow (canonical (rebuilt flow payload)) payload
Carries-rebuilt (One tos ttl protocol source destination source_port destination_port) payload fits alive small layout =
    connection_carried tos ttl protocol source destination source_port destination_port fits alive.0 alive.1 payload layout.head small layout
Carries-rebuilt (Two ttl source destination) payload fits alive small layout = hosts_carried ttl source destination fits alive payload layout.head small layout
