-- What a word of a record's line says. A reader may take more words than records have: what it found is written again
-- and compared.

use Rattle.std.specs.Prelude.{ℕ, ◌-◌, ◌^◌, ◌==◌, List, length, codes, bytes_eq, slice_index, Option, None, Some, if◌then◌else◌}
use Rattle.std.specs.Option.{option_map, option_and_then}
use Rattle.net_types.specs.declared.node.NodeId.{NodeId}
use Rattle.net_types.specs.declared.node.PortNo.{PortNo}
use Rattle.net_types.specs.declared.node.Place.{Place}
use Rattle.net_types.specs.declared.node.Place.TheVariants.{Down, Up, Out}
use Rattle.net_types.specs.declared.number.Mark.{Mark}
use Rattle.net_types.specs.Label.{label_number_of}
use Rattle.octet_fields.specs.Fields.{u16_at, u32_at}
use Rattle.ipv4_packet.specs.declared.flow.FlowId.{FlowId}
use Rattle.ipv4_packet.specs.declared.flow.FlowId.TheVariants.{One, Two}
use Rattle.ipv4_packet.specs.declared.flow.FlowKind.{FlowKind}
use Rattle.ipv4_packet.specs.declared.flow.FlowKind.TheVariants.{One as ConnectionKind, Two as HostsKind}
use Rattle.ipv4_packet.specs.declared.identifier.FlowFault.{FlowFault}
use Rattle.ipv4_packet.specs.Identifier.{first_fault}
use Rattle.lab_text.specs.Forms.{number_in, parts}
use Rattle.lab_text.specs.Numeral.{number, below}
use Rattle.topology.specs.world_model.Topology.{Topology}
use Rattle.topology.specs.world_model.Lines.{node_named}

-- *Numbers* of 32 and of 64 bits
abbrev pub number_of : List ℕ → Option ℕ
number_of word = below (2 ^ 32) (number word)

abbrev pub long_of : List ℕ → Option ℕ
long_of word = number_in 0 (2 ^ 64 - 1) word

abbrev pub port_of : List ℕ → Option PortNo
port_of word = option_map (λ port. record { 0 = port }) (number_in 0 8 word)

abbrev pub mark_of : List ℕ → Option Mark
mark_of word =
    option_and_then
    (λ halves. option_and_then (λ packet. option_map (λ frame. record { packet = packet; frame = frame }) (long_of halves.1)) (number_of halves.0))
    (parts 46 word)

-- *Labels* by their VPI and VCI, or by their numbers
abbrev pub channel_label : List ℕ → Option ℕ
channel_label word =
    option_and_then
    (λ halves. option_and_then (λ vpi. option_and_then (λ vci. label_number_of (record { vpi = vpi; vci = vci })) (number_in 0 65535 halves.1)) (number_in 0 255 halves.0))
    (parts 47 word)

abbrev pub label_of : Topology → List ℕ → Option ℕ
label_of topology word = if topology.version == 2 then channel_label word else number_in 0 65535 word

-- *Queues*
abbrev pub queue_of_port : NodeId → PortNo → Place
queue_of_port node port = if port.0 == 0 then Up node else Out node port

abbrev pub queue_behind : NodeId → List ℕ → Option Place
queue_behind node word =
    if bytes_eq word (codes "c") then Some (Down node) else option_map (queue_of_port node) (port_of word)

abbrev pub place_of : Topology → List ℕ → Option Place
place_of topology word =
    option_and_then
    (λ halves. option_and_then (λ node. queue_behind node halves.1) (node_named topology halves.0))
    (parts 58 word)

-- *Flows* by their identifiers
abbrev pub flow_at : FlowKind → List ℕ → FlowId
flow_at ConnectionKind octets =
    One (slice_index octets 1) (slice_index octets 2) (slice_index octets 3) (record { 0 = u32_at octets 4 })
    (record { 0 = u32_at octets 8 }) (u16_at octets 12) (u16_at octets 14)
flow_at HostsKind octets =
    Two (slice_index octets 2) (record { 0 = u32_at octets 4 }) (record { 0 = u32_at octets 8 })

abbrev pub flow_by : FlowKind → List ℕ → Option FlowFault → Option FlowId
flow_by kind octets None = Some (flow_at kind octets)
flow_by kind octets (Some fault) = None

abbrev pub flow_of : List ℕ → Option FlowId
flow_of octets =
    if length octets == 16
    then flow_by ConnectionKind octets (first_fault ConnectionKind octets)
    else flow_by HostsKind octets (first_fault HostsKind octets)
