-- Labelled frames: what of a packet stands in the frame under its flow's label, after RFC 1954. The
-- layout is this project's own; the fields that the flow tells are left out.

use Rattle.std.specs.Prelude.{◌≡◌, ℕ, ◌+◌, ◌^◌, ◌%◌, ◌<◌, ◌≤◌, ◌==◌, ◌&&◌, nat_lt, nat_le, not, Bool, IsTrue, List, ◌∷◌, ◌++◌, length, take, drop, slice_index, Option, Some, None, if◌then◌else◌}
use Rattle.std.specs.Option.{option_or}
use Rattle.std.specs.Int.{w16, w32, to_be_bytes}
use Rattle.octet_fields.specs.Fields.{u16_at}
use Rattle.ipv4_packet.specs.Packet.{tos_of, protocol_of, with_ttl, canonical, canonical_checksum, greatest_packet, IsPacket}
use Rattle.ipv4_packet.specs.declared.flow.FlowKind.{FlowKind}
use Rattle.ipv4_packet.specs.declared.flow.FlowKind.TheVariants.{One as ConnectionKind, Two as HostsKind}
use Rattle.ipv4_packet.specs.declared.flow.FlowId.{FlowId}
use Rattle.ipv4_packet.specs.declared.flow.FlowId.TheVariants.{One, Two}
use Rattle.ipv4_packet.specs.Flow.{kind_of, flow_of}
use Rattle.flow_encaps.specs.declared.default.EncapsFault.{EncapsFault}
use Rattle.flow_encaps.specs.declared.default.EncapsFault.TheVariants.{Short, Reserved, Length, Checksum}

-- the canonical checksum of the header with Time To Live zero: it stays the same at each router
abbrev pub checksum_at_ttl_zero : List ℕ → ℕ
checksum_at_ttl_zero packet = canonical_checksum (with_ttl packet 0)

-- Total Length, Identification, Flags and Fragment Offset, which stand in one piece (RFC 791 3.1)
abbrev pub length_to_fragment : List ℕ → List ℕ
length_to_fragment packet = take 6 (drop 2 packet)

abbrev pub labelled_payload : FlowKind → List ℕ → List ℕ
labelled_payload ConnectionKind packet =
    length_to_fragment packet ++ (to_be_bytes w16 (checksum_at_ttl_zero packet) ++ drop 24 packet)
labelled_payload HostsKind packet =
    0 ∷ tos_of packet ∷ (length_to_fragment packet
    ++ (0 ∷ protocol_of packet ∷ (to_be_bytes w16 (checksum_at_ttl_zero packet) ++ drop 20 packet)))

-- under this flow's label this payload is this packet
pub record Carries (flow : FlowId) (packet payload : List ℕ) : Type 0 where
  pub octets : (place : ℕ) → slice_index packet place < 2 ^ 8
  pub is_packet : IsPacket packet
  pub is_canonical : canonical packet ≡ packet
  pub of_flow : flow_of (kind_of flow) packet ≡ Some flow
  pub filled : payload ≡ labelled_payload (kind_of flow) packet

-- the octets that flow and payload make, with the checksum field zero
abbrev pub rebuilt : FlowId → List ℕ → List ℕ
rebuilt (One tos ttl protocol source destination source_port destination_port) payload =
    69 ∷ tos ∷ (take 6 payload ++ (ttl ∷ protocol ∷ 0 ∷ 0 ∷ (to_be_bytes w32 source.0
    ++ (to_be_bytes w32 destination.0 ++ (to_be_bytes w16 source_port
    ++ (to_be_bytes w16 destination_port ++ drop 8 payload))))))
rebuilt (Two ttl source destination) payload =
    69 ∷ slice_index payload 1 ∷ (take 6 (drop 2 payload) ++ (ttl ∷ slice_index payload 9 ∷ 0 ∷ 0
    ∷ (to_be_bytes w32 source.0 ++ (to_be_bytes w32 destination.0 ++ drop 12 payload))))

-- the octets in front of those that stand behind the packet's own fields, and how many octets fewer
-- than the packet has its payload has
abbrev pub head_size : FlowKind → ℕ
head_size ConnectionKind = 8
head_size HostsKind = 12

abbrev pub left_out : FlowKind → ℕ
left_out ConnectionKind = 16
left_out HostsKind = 8

-- what a payload says: that reserved fields are zero, Total Length, and the checksum
abbrev pub has_zeros : FlowKind → List ℕ → Bool
has_zeros ConnectionKind payload = u16_at payload 4 % 8192 == 0
has_zeros HostsKind payload = slice_index payload 0 == 0 && slice_index payload 8 == 0

abbrev pub said_length : FlowKind → List ℕ → ℕ
said_length ConnectionKind payload = u16_at payload 0
said_length HostsKind payload = u16_at payload 2

abbrev pub said_checksum : FlowKind → List ℕ → ℕ
said_checksum ConnectionKind payload = u16_at payload 6
said_checksum HostsKind payload = u16_at payload 10

-- the tests of a receiver in their order: which fails first
abbrev pub layout_fault : FlowKind → List ℕ → Option EncapsFault
layout_fault kind payload =
    if nat_lt (length payload) (head_size kind) then Some Short
    else if not (has_zeros kind payload) then Some Reserved
    else if not (said_length kind payload == length payload + left_out kind && nat_le (said_length kind payload) greatest_packet) then Some Length
    else None

abbrev pub checksum_fault : FlowId → List ℕ → Option EncapsFault
checksum_fault flow payload =
    if said_checksum (kind_of flow) payload == checksum_at_ttl_zero (rebuilt flow payload) then None else Some Checksum

abbrev pub unwrap_fault : FlowId → List ℕ → Option EncapsFault
unwrap_fault flow payload =
    option_or (layout_fault (kind_of flow) payload) (checksum_fault flow payload)

-- what the tests of the layout leave known
pub record HasLayout (kind : FlowKind) (payload : List ℕ) : Type 0 where
  pub head : head_size kind ≤ length payload
  pub zeros : IsTrue (has_zeros kind payload)
  pub own_length : said_length kind payload ≡ length payload + left_out kind
  pub fits_mtu : said_length kind payload ≤ greatest_packet
