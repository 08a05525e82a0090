-- The grant of a packet's flow, and the sizes of what it is sent as.

use Rattle.std.proofs.Common.{◌≡◌, ℕ, ◌%◌, ◌≤◌, ◌&&◌, ◌==◌, nat_le, Bool, true, false, not, List, [], ◌∷◌, length, Some, None, refl, sym, ap, arith, if◌then◌else◌}
use Rattle.std.specs.Option.{option_map}
use Rattle.std.proofs.lemmas.Bool.Decides.{nat_tests}
use Rattle.ipv4_packet.specs.Packet.{destination_of, fragment_of, protocol_of, source_of, tos_of, ttl_of}
use Rattle.octet_fields.specs.Fields.{u16_at}
use Rattle.ipv4_packet.specs.declared.flow.FlowId.{FlowId}
use Rattle.ipv4_packet.specs.declared.flow.FlowId.TheVariants.{One, Two}
use Rattle.ipv4_packet.specs.declared.flow.FlowKind.{FlowKind}
use Rattle.ipv4_packet.specs.declared.flow.FlowKind.TheVariants as kinds
use Rattle.ipv4_packet.specs.Flow.{flow_of, has_ports, kind_of, shows_ports}
use Rattle.ipv4_packet.specs.Parts.{same_flow}
use Rattle.flow_encaps.specs.Labelled.{labelled_payload}
use Rattle.flow_encaps.proofs.CarryLemmas.{length-labelled_connection, length-labelled_hosts}
use Rattle.port_model.specs.Grants.{Grant, grant_for, grant_label, is_by_controller}
use Rattle.controller_router.specs.Packets.{Named, granted}

same_kind : (f g : FlowId) → same_flow f g ≡ true → kind_of f ≡ kind_of g
same_kind (One tos ttl protocol source destination source_port destination_port) (One tos2 ttl2 protocol2 source2 destination2 source_port2 destination_port2) h = refl
same_kind (One tos ttl protocol source destination source_port destination_port) (Two ttl2 source2 destination2) h = absurd (cc h)
same_kind (Two ttl source destination) (One tos2 ttl2 protocol2 source2 destination2 source_port2 destination_port2) h = absurd (cc h)
same_kind (Two ttl source destination) (Two ttl2 source2 destination2) h = refl

right : (a b : Bool) → (a && b) ≡ true → b ≡ true
right true b h = h
right false b h = absurd (cc h)

abbrev pub named_by : FlowId → ℕ → Named
named_by flow label = record { label = label; kind = kind_of flow }

pub granted_is : (grants : List Grant) (flow : FlowId) → option_map (named_by flow) (option_map grant_label (grant_for grants flow)) ≡ option_map granted (grant_for grants flow)
granted_is [] flow = refl
granted_is (grant ∷ grants) flow = by (is_by_controller grant.state && same_flow grant.flow flow) refl (granted_is grants flow) where
  by : (b : Bool) → (is_by_controller grant.state && same_flow grant.flow flow) ≡ b → option_map (named_by flow) (option_map grant_label (grant_for grants flow)) ≡ option_map granted (grant_for grants flow)
      → option_map (named_by flow) (option_map grant_label (if b then Some grant else grant_for grants flow)) ≡ option_map granted (if b then Some grant else grant_for grants flow)
  by true t others = ap (λ kind. Some (record { label = grant.label; kind = kind })) (sym (same_kind grant.flow flow (right (is_by_controller grant.state) _ t)))
  by false t others = others

-- a packet's flow of a kind is of the kind, and its payload is short
abbrev connection_in : List ℕ → FlowId
connection_in packet = One (tos_of packet) (ttl_of packet) (protocol_of packet) (source_of packet) (destination_of packet) (u16_at packet 20) (u16_at packet 22)

abbrev hosts_in : List ℕ → FlowId
hosts_in packet = Two (ttl_of packet) (source_of packet) (destination_of packet)

if_some : (b : Bool) (flow found : FlowId) → (if b then Some found else None) ≡ Some flow → (b ≡ true) × (found ≡ flow)
if_some true flow found e = (refl, cc e)
if_some false flow found e = absurd (cc e)

pub kind_is : (kind : FlowKind) (packet : List ℕ) (flow : FlowId) → flow_of kind packet ≡ Some flow → kind_of flow ≡ kind
kind_is kinds.One packet flow e = (let both = if_some (not (ttl_of packet == 0) && shows_ports packet) flow (connection_in packet) e in ap kind_of (sym both.1))
kind_is kinds.Two packet flow e = (let both = if_some (not (ttl_of packet == 0)) flow (hosts_in packet) e in ap kind_of (sym both.1))

at_least : (n : ℕ) → nat_le 24 n ≡ true → 24 ≤ n
at_least n h = grind (arith, nat_tests)

pub record IsShort (packet payload : List ℕ) : Type 0 where
  pub least : 1 ≤ length payload
  pub most : length payload ≤ length packet

short_of : (kind : FlowKind) (packet : List ℕ) (flow : FlowId) → 20 ≤ length packet → flow_of kind packet ≡ Some flow → IsShort packet (labelled_payload kind packet)
short_of kinds.One packet flow long e =
    (let both = if_some (not (ttl_of packet == 0) && shows_ports packet) flow (connection_in packet) e in
    let enough : 24 ≤ length packet = at_least (length packet) (right (fragment_of packet % 8192 == 0) _ (right (has_ports (protocol_of packet)) _ (right (not (ttl_of packet == 0)) _ both.0))) in
    let size = length-labelled_connection packet enough in
    record { least = omega (arith, size, enough); most = omega (arith, size) })
short_of kinds.Two packet flow long e = (let size = length-labelled_hosts packet long in record { least = omega (arith, size, long); most = omega (arith, size) })

pub short_is : (packet : List ℕ) (flow : FlowId) → 20 ≤ length packet → flow_of (kind_of flow) packet ≡ Some flow → IsShort packet (labelled_payload (kind_of flow) packet)
short_is packet flow long e = short_of (kind_of flow) packet flow long e
