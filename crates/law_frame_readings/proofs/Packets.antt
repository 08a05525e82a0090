-- a packet that may be in the network, and that of a message of IFMP, pass the tests of a receiver

use Rattle.std.proofs.Common.{◌≡◌, ℕ, ◌/◌, ◌%◌, ◌≤◌, Bool, true, false, not, List, length, Option, None, Some, refl, ◌∙◌, ap, arith, if◌then◌else◌}
use Rattle.std.specs.Prelude.{◌==◌, nat_lt, slice_index}
use Rattle.std.proofs.lemmas.Bool.Decides.{nat_tests}
use Rattle.law_controller_lifts.specs.world_model.Words.{Mark, PacketFault, Version, Options, TooLong, Checksum, protocol_of, total_length_of, header_sum, ifmp_packet_of, IsPacket, FlowId, identifier, Redirect, Reclaim, ReclaimAck, LabelRange, Error, Refusal, ControlProtocol, control_protocol, refused_by}
use Rattle.law_controller_lifts.specs.world_model.ipv4_packet.declared.validate.PacketFault.TheVariants.{Short, Length}
use Rattle.law_controller_lifts.specs.world_model.ipv4_packet.Packet.{first_fault}
use Rattle.law_controller_lifts.proofs.world_model.ipv4_packet.MessageLemmas.{IsPacket-ifmp_packet_of}
use Rattle.law_controller_lifts.specs.world_model.ipv4_packet.declared.flow.FlowId.TheVariants.{One, Two}
use Rattle.law_controller_lifts.specs.world_model.ifmp_wire.declared.message.Message.{Message}
use Rattle.law_controller_lifts.specs.world_model.ifmp_wire.declared.message.Message.TheVariants.{Adjacency}
use Rattle.law_controller_lifts.specs.world_model.ifmp_wire.Message.{octets_of}
use Rattle.law_controller_lifts.specs.world_model.ifmp_wire.Fields.{decoded}
use Rattle.law_controller_lifts.proofs.law_wire.Ifmp.{read_back}
use Rattle.law_controller_lifts.proofs.law_wire.Packets.{protocol_is, source_is, message_is}
use Rattle.law_controller_lifts.specs.law_shown_cells.Label.{Told}
use Rattle.law_world_views.specs.Made.{IsFit}
use Rattle.law_frame_readings.specs.Reading.{IsToldAs, IsForwarded, IsHeardAs}

-- *The tests* of a packet, by their outcomes
abbrev fault_by : (short version options length long sum : Bool) → Option PacketFault
fault_by short version options length long sum =
    if short then Some Short
    else if not version then Some Version
    else if not options then Some Options
    else if not length then Some Length
    else if long then Some TooLong
    else if not sum then Some Checksum
    else None

pub whole_packet : (octets : List ℕ) → IsPacket octets → first_fault octets ≡ None
whole_packet octets p =
    let short : nat_lt (length octets) 20 ≡ false = let fact = p.has_header in grind (arith, nat_tests) in
    let version : (slice_index octets 0 / 16 == 4) ≡ true = ap (λ (n : ℕ). n / 16 == 4) p.version_and_header_length ∙ refl in
    let options : (slice_index octets 0 % 16 == 5) ≡ true = ap (λ (n : ℕ). n % 16 == 5) p.version_and_header_length ∙ refl in
    let own : (total_length_of octets == length octets) ≡ true = let fact = p.own_length in grind (arith, nat_tests) in
    let long : nat_lt 1500 (length octets) ≡ false = let fact = p.fits_mtu in grind (arith, nat_tests) in
    let sum : (header_sum octets == 65535) ≡ true = let fact = p.sums_up in grind (arith, nat_tests) in
    λ i. fault_by (short i) (version i) (options i) (own i) (long i) (sum i)

-- *A packet that may be in the network*
protocol_test : (b : Bool) → ◌≡◌ {A = Option Refusal} (if b then Some ControlProtocol else None) None → b ≡ false
protocol_test true e = absurd (cc e)
protocol_test false e = refl

pub is_forwarded : (packet : List ℕ) → IsFit packet → IsForwarded packet
is_forwarded packet fit = by (first_fault packet) refl fit.accepted
  where
    by : (o : Option PacketFault) → first_fault packet ≡ o → refused_by packet o ≡ None → IsForwarded packet
    by (Some fault) whole e = absurd (cc e)
    by None whole e = record { whole = whole; other = protocol_test (protocol_of packet == control_protocol) e }

-- *The packet of a message*: at most 40 octets
flow_size : (flow : FlowId) → length (identifier flow) ≤ 16
flow_size (One tos ttl protocol source destination source_port destination_port) = omega arith
flow_size (Two ttl source destination) = omega arith

message_size : (message : Message) → length (octets_of message) ≤ 40
message_size (Adjacency hello) = omega arith
message_size (Redirect sender peer number lifetime label flow) = omega (arith, flow_size flow)
message_size (Reclaim sender peer number label flow) = omega (arith, flow_size flow)
message_size (ReclaimAck sender peer number label flow) = omega (arith, flow_size flow)
message_size (LabelRange sender peer number least greatest) = omega arith
message_size (Error sender peer number code label) = omega arith

pub is_heard : (mark : Mark) (payload : List ℕ) (item : Told) → IsToldAs mark payload item → IsHeardAs (ifmp_packet_of item.source (octets_of item.message)) item
is_heard mark payload item t = record {
  whole = whole_packet (ifmp_packet_of item.source (octets_of item.message)) (IsPacket-ifmp_packet_of item.source (octets_of item.message) (message_size item.message));
  control = ap (λ (n : ℕ). n == control_protocol) (protocol_is item.source (octets_of item.message)) ∙ refl;
  message = ap decoded (message_is item.source (octets_of item.message)) ∙ read_back item.message t.in_range t.fits;
  source = source_is item.source (octets_of item.message) t.source;
}
