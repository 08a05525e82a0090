-- Which packets are one flow, after the flow types of RFC 1953 and RFC 1954. Type 1 tells apart the
-- ends of a transport connection, type 2 the two hosts.

use Rattle.std.specs.Prelude.{ℕ, ◌-◌, ◌%◌, ◌<◌, ◌==◌, ◌&&◌, ◌||◌, nat_le, not, Bool, IsTrue, List, length, Option, Some, None, if◌then◌else◌}
use Rattle.octet_fields.specs.Fields.{u16_at}
use Rattle.ipv4_packet.specs.Packet.{tos_of, fragment_of, ttl_of, protocol_of, source_of, destination_of}
use Rattle.ipv4_packet.specs.declared.flow.FlowKind.{FlowKind}
use Rattle.ipv4_packet.specs.declared.flow.FlowKind.TheVariants.{One as ConnectionKind, Two as HostsKind}
use Rattle.ipv4_packet.specs.declared.flow.FlowId.{FlowId}
use Rattle.ipv4_packet.specs.declared.flow.FlowId.TheVariants.{One, Two}

abbrev pub kind_of : FlowId → FlowKind
kind_of (One _ _ _ _ _ _ _) = ConnectionKind
kind_of (Two _ _ _) = HostsKind

abbrev pub flow_ttl : FlowId → ℕ
flow_ttl (One _ ttl _ _ _ _ _) = ttl
flow_ttl (Two ttl _ _) = ttl

-- TCP and UDP begin with the source port and the destination port (RFC 793 3.1, RFC 768)
abbrev pub has_ports : (protocol : ℕ) → Bool
has_ports protocol = protocol == 6 || protocol == 17

-- the ports of a packet are there to read: it isn't a later fragment, and has 4 octets behind its
-- header
abbrev pub shows_ports : List ℕ → Bool
shows_ports packet =
    has_ports (protocol_of packet) && (fragment_of packet % 8192 == 0 && nat_le 24 (length packet))

-- the flow of a packet, of each kind
abbrev pub flow_of : FlowKind → List ℕ → Option FlowId
flow_of ConnectionKind packet =
    if not (ttl_of packet == 0) && shows_ports packet
    then Some (One (tos_of packet) (ttl_of packet) (protocol_of packet) (source_of packet) (destination_of packet) (u16_at packet 20) (u16_at packet 22))
    else None
flow_of HostsKind packet =
    if not (ttl_of packet == 0)
    then Some (Two (ttl_of packet) (source_of packet) (destination_of packet))
    else None

-- the same flow where its packets have this Time To Live
abbrev pub at_ttl : FlowId → ℕ → FlowId
at_ttl (One tos _ protocol source destination source_port destination_port) ttl =
    One tos ttl protocol source destination source_port destination_port
at_ttl (Two _ source destination) ttl = Two ttl source destination

-- the same flow one hop further
abbrev pub next_hop_of : FlowId → Option FlowId
next_hop_of flow =
    if nat_le (flow_ttl flow) 1 then None else Some (at_ttl flow (flow_ttl flow - 1))

-- some packet can be of this flow: it still lives, and type 1 has ports
abbrev pub IsFlow : FlowId → Type 0
IsFlow (One _ ttl protocol _ _ _ _) = (0 < ttl) × IsTrue (has_ports protocol)
IsFlow (Two ttl _ _) = 0 < ttl
