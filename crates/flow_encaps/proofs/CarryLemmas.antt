-- from a packet to its payload and back

use Rattle.std.proofs.Common.{◌≡◌, ℕ, zero, suc, ◌+◌, ◌-◌, ◌/◌, ◌%◌, ◌≤◌, ◌<◌, Bool, true, false, not, cond, eqb, leb, IsTrue, List, [], ◌∷◌, ◌++◌, length, take, drop, get_or, Option, Some, None, refl, ap, sym, ◌∙◌, subst, arith}
use Rattle.std.proofs.Math.ListN.{set}
use mathlib.Core.Bool.{◌&&◌}
use Rattle.std.specs.Int.{w16, to_be_bytes}
use Rattle.std.proofs.lemmas.Bool.Decides.{nat_tests}
use Rattle.std.proofs.lemmas.List.{length-drop, length-set}
use Rattle.std.proofs.lemmas.Nat.{from_be_bytes-to_be_bytes_2}
use Rattle.octet_fields.specs.Fields.{u16_at}
use Rattle.ipv4_packet.specs.Packet.{tos_of, total_length_of, fragment_of, ttl_of, protocol_of, source_of, destination_of, with_ttl, with_checksum, canonical, canonical_checksum, IsPacket}
use Rattle.octet_fields.proofs.FieldLemmas.{AreOctets, AreOctets-drop, AreOctets-take, u16-then, u32-then}
use Rattle.ipv4_packet.proofs.HeaderLemmas.{on_header, IsPacket-with_ttl}
use Rattle.ipv4_packet.proofs.RouteLemmas.{canonical-canonical}
use Rattle.ipv4_packet.specs.declared.flow.FlowKind.{FlowKind}
use Rattle.ipv4_packet.specs.declared.flow.FlowKind.TheVariants.{One as ConnectionKind, Two as HostsKind}
use Rattle.ipv4_packet.specs.declared.flow.FlowId.{FlowId}
use Rattle.ipv4_packet.specs.declared.flow.FlowId.TheVariants.{One, Two}
use Rattle.ipv4_packet.specs.Flow.{kind_of, flow_ttl, at_ttl, has_ports, shows_ports, flow_of, next_hop_of}
use Rattle.ipv4_packet.proofs.HopLemmas.{next_hop_of-flow_of}
use Rattle.flow_encaps.specs.Labelled.{checksum_at_ttl_zero, labelled_payload, Carries, rebuilt, has_zeros, said_length, said_checksum, unwrap_fault, HasLayout}
use Rattle.flow_encaps.proofs.RebuiltLemmas.{AreOctets-pair, checksum_at_ttl_zero-with_checksum, canonical-with_checksum, layout_fault-passed, unwrap_fault-none}

-- the flow of a packet tells its fields
cond_some : (test : Bool) (flow other : FlowId) → cond test (Some flow) None ≡ Some other → (other ≡ flow) × (test ≡ true)
cond_some true flow other is = let same : ◌≡◌ {A = Option FlowId} (Some flow) (Some other) = is in (cc, refl)
cond_some false flow other is = let same : ◌≡◌ {A = Option FlowId} None (Some other) = is in let never : ⊥ = cc in absurd never

abbrev connection_at : List ℕ → FlowId
connection_at packet = One (tos_of packet) (ttl_of packet) (protocol_of packet) (source_of packet) (destination_of packet) (u16_at packet 20) (u16_at packet 22)

abbrev hosts_at : List ℕ → FlowId
hosts_at packet = Two (ttl_of packet) (source_of packet) (destination_of packet)

connection_is : (packet : List ℕ) (flow : FlowId) → flow_of ConnectionKind packet ≡ Some flow → (flow ≡ connection_at packet) × (not (eqb (ttl_of packet) 0) && shows_ports packet ≡ true)
connection_is packet flow = cond_some (not (eqb (ttl_of packet) 0) && shows_ports packet) (connection_at packet) flow

hosts_is : (packet : List ℕ) (flow : FlowId) → flow_of HostsKind packet ≡ Some flow → (flow ≡ hosts_at packet) × (not (eqb (ttl_of packet) 0) ≡ true)
hosts_is packet flow = cond_some (not (eqb (ttl_of packet) 0)) (hosts_at packet) flow

shows : (ttl protocol fragment size : ℕ) → not (eqb ttl 0) && (has_ports protocol && (eqb (fragment % 8192) 0 && leb 24 size)) ≡ true → (0 < ttl) × (fragment % 8192 ≡ 0) × (24 ≤ size)
shows ttl protocol fragment size is = (grind (arith, nat_tests), grind (arith, nat_tests), grind (arith, nat_tests))

pub length-of_connection : (packet : List ℕ) (flow : FlowId) → flow_of ConnectionKind packet ≡ Some flow → 24 ≤ length packet
length-of_connection packet flow is = (shows (ttl_of packet) (protocol_of packet) (fragment_of packet) (length packet) (connection_is packet flow is).1).2

-- the parts of a payload
drop_8-labelled : (packet : List ℕ) → 20 ≤ length packet → drop 8 (labelled_payload ConnectionKind packet) ≡ drop 24 packet
drop_8-labelled = on_header (λ p. drop 8 (labelled_payload ConnectionKind p) ≡ drop 24 p) (λ a b c d e f g h i j k l m n o p q r s t rest. refl)

drop_12-labelled : (packet : List ℕ) → 20 ≤ length packet → drop 12 (labelled_payload HostsKind packet) ≡ drop 20 packet
drop_12-labelled = on_header (λ p. drop 12 (labelled_payload HostsKind p) ≡ drop 20 p) (λ a b c d e f g h i j k l m n o p q r s t rest. refl)

pub length-labelled_connection : (packet : List ℕ) → 24 ≤ length packet → length (labelled_payload ConnectionKind packet) + 16 ≡ length packet
length-labelled_connection packet long =
    on_header (λ p. 24 ≤ length p → length (labelled_payload ConnectionKind p) + 16 ≡ length p) (λ a b c d e f g h i j k l m n o p q r s t rest enough. omega (arith, length-drop 4 rest)) packet (omega arith) long

pub length-labelled_hosts : (packet : List ℕ) → 20 ≤ length packet → length (labelled_payload HostsKind packet) + 8 ≡ length packet
length-labelled_hosts = on_header (λ p. length (labelled_payload HostsKind p) + 8 ≡ length p) (λ a b c d e f g h i j k l m n o p q r s t rest. omega arith)

-- the head that flow and payload make is the packet's own
connection_head : (packet : List ℕ) → 20 ≤ length packet → get_or packet 0 0 ≡ 69 → 69 ∷ tos_of packet ∷ (take 6 (labelled_payload ConnectionKind packet) ++ (ttl_of packet ∷ protocol_of packet ∷ 0 ∷ 0 ∷ drop 12 packet)) ≡ with_checksum packet 0
connection_head = on_header (λ p. get_or p 0 0 ≡ 69 → 69 ∷ tos_of p ∷ (take 6 (labelled_payload ConnectionKind p) ++ (ttl_of p ∷ protocol_of p ∷ 0 ∷ 0 ∷ drop 12 p)) ≡ with_checksum p 0)
    (λ a b c d e f g h i j k l m n o p q r s t rest first. ap (λ (octet : ℕ). octet ∷ b ∷ c ∷ d ∷ e ∷ f ∷ g ∷ h ∷ i ∷ j ∷ 0 ∷ 0 ∷ m ∷ n ∷ o ∷ p ∷ q ∷ r ∷ s ∷ t ∷ rest) (sym first))

hosts_head : (packet : List ℕ) → 20 ≤ length packet → get_or packet 0 0 ≡ 69 → 69 ∷ get_or (labelled_payload HostsKind packet) 1 0 ∷ (take 6 (drop 2 (labelled_payload HostsKind packet)) ++ (ttl_of packet ∷ get_or (labelled_payload HostsKind packet) 9 0 ∷ 0 ∷ 0 ∷ drop 12 packet)) ≡ with_checksum packet 0
hosts_head = on_header (λ p. get_or p 0 0 ≡ 69 → 69 ∷ get_or (labelled_payload HostsKind p) 1 0 ∷ (take 6 (drop 2 (labelled_payload HostsKind p)) ++ (ttl_of p ∷ get_or (labelled_payload HostsKind p) 9 0 ∷ 0 ∷ 0 ∷ drop 12 p)) ≡ with_checksum p 0)
    (λ a b c d e f g h i j k l m n o p q r s t rest first. ap (λ (octet : ℕ). octet ∷ b ∷ c ∷ d ∷ e ∷ f ∷ g ∷ h ∷ i ∷ j ∷ 0 ∷ 0 ∷ m ∷ n ∷ o ∷ p ∷ q ∷ r ∷ s ∷ t ∷ rest) (sym first))

rebuilt-connection_at : (packet : List ℕ) → AreOctets packet → IsPacket packet → 24 ≤ length packet → rebuilt (connection_at packet) (labelled_payload ConnectionKind packet) ≡ with_checksum packet 0
rebuilt-connection_at packet small known long =
    let payload = labelled_payload ConnectionKind packet in
    let behind = u32-then packet 12 _ small (omega arith) (u32-then packet 16 _ small (omega arith) (u16-then packet 20 _ small (omega arith) (u16-then packet 22 (drop 8 payload) small (omega arith) (sym (drop_8-labelled packet known.has_header))))) in
    ap (λ (part : List ℕ). 69 ∷ tos_of packet ∷ (take 6 payload ++ (ttl_of packet ∷ protocol_of packet ∷ 0 ∷ 0 ∷ part))) (sym behind)
    ∙ connection_head packet known.has_header known.version_and_header_length

rebuilt-hosts_at : (packet : List ℕ) → AreOctets packet → IsPacket packet → rebuilt (hosts_at packet) (labelled_payload HostsKind packet) ≡ with_checksum packet 0
rebuilt-hosts_at packet small known =
    let payload = labelled_payload HostsKind packet in
    let long = known.has_header in
    let behind = u32-then packet 12 _ small (omega arith) (u32-then packet 16 (drop 12 payload) small (omega arith) (sym (drop_12-labelled packet known.has_header))) in
    ap (λ (part : List ℕ). 69 ∷ get_or payload 1 0 ∷ (take 6 (drop 2 payload) ++ (ttl_of packet ∷ get_or payload 9 0 ∷ 0 ∷ 0 ∷ part))) (sym behind)
    ∙ hosts_head packet known.has_header known.version_and_header_length

-- flow and payload make the packet, but for its checksum
rebuilt-carried : (flow : FlowId) (packet payload : List ℕ) → Carries flow packet payload → rebuilt flow payload ≡ with_checksum packet 0
rebuilt-carried (One tos ttl protocol source destination source_port destination_port) packet payload carried =
    let flow = One tos ttl protocol source destination source_port destination_port in
    let is = connection_is packet flow carried.of_flow in
    let shown = shows (ttl_of packet) (protocol_of packet) (fragment_of packet) (length packet) is.1 in
    ap (λ (f : FlowId). rebuilt f payload) is.0 ∙ ap (λ (octets : List ℕ). rebuilt (connection_at packet) octets) carried.filled
    ∙ rebuilt-connection_at packet carried.octets carried.is_packet shown.2
rebuilt-carried (Two ttl source destination) packet payload carried =
    let flow = Two ttl source destination in
    let is = hosts_is packet flow carried.of_flow in
    ap (λ (f : FlowId). rebuilt f payload) is.0 ∙ ap (λ (octets : List ℕ). rebuilt (hosts_at packet) octets) carried.filled
    ∙ rebuilt-hosts_at packet carried.octets carried.is_packet

pub packet-carried : (flow : FlowId) (packet payload : List ℕ) → Carries flow packet payload → canonical (rebuilt flow payload) ≡ packet
packet-carried flow packet payload carried =
    ap canonical (rebuilt-carried flow packet payload carried) ∙ canonical-with_checksum packet 0 carried.is_packet.has_header ∙ carried.is_canonical

pub Carries-injective : (flow : FlowId) (first second payload : List ℕ) → Carries flow first payload → Carries flow second payload → first ≡ second
Carries-injective flow first second payload one other = sym (packet-carried flow first payload one) ∙ packet-carried flow second payload other

-- a payload that is a packet passes each test
said_checksum-labelled : (kind : FlowKind) (packet : List ℕ) → 20 ≤ length packet → said_checksum kind (labelled_payload kind packet) ≡ checksum_at_ttl_zero packet
said_checksum-labelled ConnectionKind packet long =
    on_header (λ p. said_checksum ConnectionKind (labelled_payload ConnectionKind p) ≡ checksum_at_ttl_zero p) (λ a b c d e f g h i j k l m n o p q r s t rest. from_be_bytes-to_be_bytes_2 (checksum_at_ttl_zero (a ∷ b ∷ c ∷ d ∷ e ∷ f ∷ g ∷ h ∷ i ∷ j ∷ k ∷ l ∷ m ∷ n ∷ o ∷ p ∷ q ∷ r ∷ s ∷ t ∷ rest)) (omega arith)) packet long
said_checksum-labelled HostsKind packet long =
    on_header (λ p. said_checksum HostsKind (labelled_payload HostsKind p) ≡ checksum_at_ttl_zero p) (λ a b c d e f g h i j k l m n o p q r s t rest. from_be_bytes-to_be_bytes_2 (checksum_at_ttl_zero (a ∷ b ∷ c ∷ d ∷ e ∷ f ∷ g ∷ h ∷ i ∷ j ∷ k ∷ l ∷ m ∷ n ∷ o ∷ p ∷ q ∷ r ∷ s ∷ t ∷ rest)) (omega arith)) packet long

said_length-labelled : (kind : FlowKind) (packet : List ℕ) → 20 ≤ length packet → said_length kind (labelled_payload kind packet) ≡ total_length_of packet
said_length-labelled ConnectionKind = on_header (λ p. said_length ConnectionKind (labelled_payload ConnectionKind p) ≡ total_length_of p) (λ a b c d e f g h i j k l m n o p q r s t rest. refl)
said_length-labelled HostsKind = on_header (λ p. said_length HostsKind (labelled_payload HostsKind p) ≡ total_length_of p) (λ a b c d e f g h i j k l m n o p q r s t rest. refl)

fragment-labelled : (packet : List ℕ) → 20 ≤ length packet → u16_at (labelled_payload ConnectionKind packet) 4 ≡ fragment_of packet
fragment-labelled = on_header (λ p. u16_at (labelled_payload ConnectionKind p) 4 ≡ fragment_of p) (λ a b c d e f g h i j k l m n o p q r s t rest. refl)

zeros-labelled : (packet : List ℕ) → 20 ≤ length packet → has_zeros HostsKind (labelled_payload HostsKind packet) ≡ true
zeros-labelled = on_header (λ p. has_zeros HostsKind (labelled_payload HostsKind p) ≡ true) (λ a b c d e f g h i j k l m n o p q r s t rest. refl)

true-is : (test : Bool) → test ≡ true → IsTrue test
true-is test is = subst (λ (b : Bool). IsTrue b) (sym is) refl

layout-labelled : (flow : FlowId) (packet : List ℕ) → IsPacket packet → flow_of (kind_of flow) packet ≡ Some flow → HasLayout (kind_of flow) (labelled_payload (kind_of flow) packet)
layout-labelled (One tos ttl protocol source destination source_port destination_port) packet known of_flow =
    let is = connection_is packet (One tos ttl protocol source destination source_port destination_port) of_flow in
    let shown = shows (ttl_of packet) (protocol_of packet) (fragment_of packet) (length packet) is.1 in
    let size = length-labelled_connection packet shown.2 in
    let own = said_length-labelled ConnectionKind packet known.has_header in
    let unfragmented : eqb (fragment_of packet % 8192) 0 ≡ true = let fact = shown.1 in grind (arith, nat_tests) in
    record {
      head = omega (arith, size, shown.2);
      zeros = true-is _ (rw (fragment-labelled packet known.has_header) unfragmented);
      own_length = own ∙ known.own_length ∙ sym size;
      fits_mtu = rw (own ∙ known.own_length) known.fits_mtu;
    }
layout-labelled (Two ttl source destination) packet known of_flow =
    let size = length-labelled_hosts packet known.has_header in
    let own = said_length-labelled HostsKind packet known.has_header in
    record {
      head = omega (arith, size, known.has_header);
      zeros = true-is _ (zeros-labelled packet known.has_header);
      own_length = own ∙ known.own_length ∙ sym size;
      fits_mtu = rw (own ∙ known.own_length) known.fits_mtu;
    }

pub unwrap_fault-carried : (flow : FlowId) (packet payload : List ℕ) → Carries flow packet payload → unwrap_fault flow payload ≡ None
unwrap_fault-carried flow packet payload carried =
    let long = carried.is_packet.has_header in
    let layout = subst (λ (octets : List ℕ). HasLayout (kind_of flow) octets) (sym carried.filled) (layout-labelled flow packet carried.is_packet carried.of_flow) in
    let said : said_checksum (kind_of flow) payload ≡ checksum_at_ttl_zero packet = ap (λ (octets : List ℕ). said_checksum (kind_of flow) octets) carried.filled ∙ said_checksum-labelled (kind_of flow) packet long in
    let still : checksum_at_ttl_zero (rebuilt flow payload) ≡ checksum_at_ttl_zero packet = ap checksum_at_ttl_zero (rebuilt-carried flow packet payload carried) ∙ checksum_at_ttl_zero-with_checksum packet 0 long in
    unwrap_fault-none flow payload (layout_fault-passed (kind_of flow) payload layout) (said ∙ sym still)

-- a hop
AreOctets-append : (front back : List ℕ) → AreOctets front → AreOctets back → AreOctets (front ++ back)
AreOctets-append [] back small more place = more place
AreOctets-append (octet ∷ front) back small more zero = small 0
AreOctets-append (octet ∷ front) back small more (suc place) = AreOctets-append front back (λ (i : ℕ). small (suc i)) more place

AreOctets-set : (octets : List ℕ) (place octet : ℕ) → octet < 256 → AreOctets octets → AreOctets (set octets place octet)
AreOctets-set [] place octet is small i = small i
AreOctets-set (first ∷ octets) zero octet is small zero = is
AreOctets-set (first ∷ octets) zero octet is small (suc i) = small (suc i)
AreOctets-set (first ∷ octets) (suc place) octet is small zero = small 0
AreOctets-set (first ∷ octets) (suc place) octet is small (suc i) = AreOctets-set octets place octet is (λ (j : ℕ). small (suc j)) i

byte_small : (number : ℕ) → number % 256 < 256
byte_small number = omega arith

AreOctets-canonical : (octets : List ℕ) → AreOctets octets → AreOctets (canonical octets)
AreOctets-canonical octets small =
    let checksum = canonical_checksum octets in
    AreOctets-append (take 10 octets) (to_be_bytes w16 checksum ++ drop 12 octets) (AreOctets-take octets 10 small)
    (AreOctets-append (to_be_bytes w16 checksum) (drop 12 octets) (AreOctets-pair (checksum / 256 % 256) (checksum % 256) (byte_small (checksum / 256)) (byte_small checksum)) (AreOctets-drop octets 12 small))

labelled-rerouted : (kind : FlowKind) (packet : List ℕ) (ttl : ℕ) → 20 ≤ length packet → labelled_payload kind (canonical (with_ttl packet ttl)) ≡ labelled_payload kind packet
labelled-rerouted ConnectionKind packet ttl = on_header (λ p. labelled_payload ConnectionKind (canonical (with_ttl p ttl)) ≡ labelled_payload ConnectionKind p) (λ a b c d e f g h i j k l m n o p q r s t rest. refl) packet
labelled-rerouted HostsKind packet ttl = on_header (λ p. labelled_payload HostsKind (canonical (with_ttl p ttl)) ≡ labelled_payload HostsKind p) (λ a b c d e f g h i j k l m n o p q r s t rest. refl) packet

flow_ttl-carried : (flow : FlowId) (packet payload : List ℕ) → Carries flow packet payload → flow_ttl flow ≡ ttl_of packet
flow_ttl-carried (One tos ttl protocol source destination source_port destination_port) packet payload carried =
    ap flow_ttl (connection_is packet (One tos ttl protocol source destination source_port destination_port) carried.of_flow).0
flow_ttl-carried (Two ttl source destination) packet payload carried = ap flow_ttl (hosts_is packet (Two ttl source destination) carried.of_flow).0

kind_of-at_ttl : (flow : FlowId) (ttl : ℕ) → kind_of (at_ttl flow ttl) ≡ kind_of flow
kind_of-at_ttl (One tos _ protocol source destination source_port destination_port) ttl = refl
kind_of-at_ttl (Two _ source destination) ttl = refl

next_hop-some : (test : Bool) (flow next : FlowId) → cond test None (Some flow) ≡ Some next → (next ≡ flow) × (test ≡ false)
next_hop-some true flow next is = let same : ◌≡◌ {A = Option FlowId} None (Some next) = is in let never : ⊥ = cc in absurd never
next_hop-some false flow next is = let same : ◌≡◌ {A = Option FlowId} (Some flow) (Some next) = is in (cc, refl)

above_one : (ttl : ℕ) → leb ttl 1 ≡ false → 1 < ttl
above_one ttl is = grind (arith, nat_tests)

pub Carries-next_hop : (flow next : FlowId) (packet payload : List ℕ) → Carries flow packet payload → next_hop_of flow ≡ Some next → Carries next (canonical (with_ttl packet (flow_ttl flow - 1))) payload
Carries-next_hop flow next packet payload carried goes =
    let long = carried.is_packet.has_header in
    let ttl_is = flow_ttl-carried flow packet payload carried in
    let is = next_hop-some (leb (flow_ttl flow) 1) (at_ttl flow (flow_ttl flow - 1)) next goes in
    let alive : 1 < ttl_of packet = subst (λ (ttl : ℕ). 1 < ttl) ttl_is (above_one (flow_ttl flow) is.1) in
    let same_kind : kind_of next ≡ kind_of flow = ap kind_of is.0 ∙ kind_of-at_ttl flow (flow_ttl flow - 1) in
    let hop : next_hop_of flow ≡ flow_of (kind_of flow) (canonical (with_ttl packet (flow_ttl flow - 1))) =
    subst (λ (ttl : ℕ). next_hop_of flow ≡ flow_of (kind_of flow) (canonical (with_ttl packet (ttl - 1)))) (sym ttl_is) (next_hop_of-flow_of (kind_of flow) packet flow carried.is_packet alive carried.of_flow) in
    let size : length (with_ttl packet (flow_ttl flow - 1)) ≡ length packet = length-set packet 8 (flow_ttl flow - 1) in
    record {
      octets = AreOctets-canonical (with_ttl packet (flow_ttl flow - 1)) (AreOctets-set packet 8 (flow_ttl flow - 1) (omega (arith, carried.octets 8, ttl_is)) carried.octets);
      is_packet = IsPacket-with_ttl packet (flow_ttl flow - 1) carried.is_packet;
      is_canonical = canonical-canonical (with_ttl packet (flow_ttl flow - 1)) (rw size long);
      of_flow = subst (λ (kind : FlowKind). flow_of kind (canonical (with_ttl packet (flow_ttl flow - 1))) ≡ Some next) (sym same_kind) (sym hop ∙ goes);
      filled = carried.filled ∙ sym (labelled-rerouted (kind_of flow) packet (flow_ttl flow - 1) long) ∙ ap (λ (kind : FlowKind). labelled_payload kind (canonical (with_ttl packet (flow_ttl flow - 1)))) (sym same_kind);
    }
