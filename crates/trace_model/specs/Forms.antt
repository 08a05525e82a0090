-- The forms of the words of a trace, and how each is refused. The language is this project's own.

use Rattle.std.specs.Prelude.{ℕ, ◌-◌, ◌^◌, ◌==◌, ◌||◌, ◌&&◌, nat_lt, Bool, List, [], ◌∷◌, ◌++◌, length, drop, slice_index, Option, None, Some, Result, Ok, Err, if◌then◌else◌}
use Rattle.std.specs.List.{repeat}
use Rattle.std.specs.Option.{option_map, option_and_then, option_or, ok_or}
use Rattle.net_types.specs.declared.prefix.Addr.{Addr}
use Rattle.net_types.specs.declared.node.PortNo.{PortNo}
use Rattle.net_types.specs.declared.channel.Channel.{Channel}
use Rattle.net_types.specs.declared.number.Mark.{Mark}
pub use Rattle.net_types.specs.Channel.{is_default_channel}
use Rattle.net_types.specs.Label.{greatest_label_vpi, greatest_label_vci, is_label_channel}
pub use Rattle.aal5_frames.specs.Frame.{greatest_payload}
use Rattle.octet_fields.specs.Fields.{u16_at, u32_at}
use Rattle.ipv4_packet.specs.declared.flow.FlowKind.{FlowKind}
use Rattle.ipv4_packet.specs.declared.flow.FlowKind.TheVariants as kind
use Rattle.ipv4_packet.specs.declared.flow.FlowId.{FlowId}
use Rattle.ipv4_packet.specs.declared.flow.FlowId.TheVariants.{One, Two}
use Rattle.ipv4_packet.specs.declared.identifier.FlowFault.{FlowFault}
use Rattle.ipv4_packet.specs.Identifier.{first_fault}
use Rattle.lab_text.specs.Numeral.{hex_octets}
use Rattle.lab_text.specs.Forms.{is_name, number_in, parts}
use Rattle.trace_model.specs.declared.end.NodeName.{NodeName}
use Rattle.trace_model.specs.declared.end.TraceEnd.{TraceEnd}
use Rattle.trace_model.specs.declared.refusal.TraceRefusal.{TraceRefusal}
use Rattle.trace_model.specs.declared.refusal.TraceRefusal.TheVariants.{BadName, BadPlace, BadNumber, BadChannel, BadMark, BadHex, BadLength, BadFlow}

-- *A name*, with zeros behind it
abbrev pub padded_name : List ℕ → NodeName
padded_name word = record { 0 = word ++ drop (length word) (repeat 16 (0 ∷ [])) }

abbrev pub read_name : List ℕ → Result NodeName TraceRefusal
read_name word = if is_name word then Ok (padded_name word) else Err BadName

-- *A port*, 1 to 8
abbrev pub port_of : List ℕ → Option PortNo
port_of word = option_map (λ port. record { 0 = port }) (number_in 1 8 word)

abbrev pub read_port : List ℕ → Result PortNo TraceRefusal
read_port word = ok_or (port_of word) BadNumber

-- *NAME:PORT*
abbrev pub end_by : List ℕ × List ℕ → Option TraceEnd
end_by halves =
    if is_name halves.0 then option_map (λ port. record { node = padded_name halves.0; port = port }) (port_of halves.1) else None

abbrev pub end_of : List ℕ → Option TraceEnd
end_of word = option_and_then end_by (parts 58 word)

abbrev pub read_end : List ℕ → Result TraceEnd TraceRefusal
read_end word = ok_or (end_of word) BadPlace

-- *VPI/VCI*: the channel that leads to a router, 0/15, or one of a label
abbrev pub channel_by : Option ℕ → Option ℕ → Option Channel
channel_by (Some vpi) (Some vci) = Some (record { vpi = vpi; vci = vci })
channel_by vpi vci = None

abbrev pub channel_of : List ℕ → Option Channel
channel_of word = option_and_then (λ halves. channel_by (number_in 0 greatest_label_vpi halves.0) (number_in 0 greatest_label_vci halves.1)) (parts 47 word)

abbrev pub where_channel : (Channel → Bool) → Option Channel → Result Channel TraceRefusal
where_channel test None = Err BadChannel
where_channel test (Some channel) = if test channel then Ok channel else Err BadChannel

abbrev pub is_cell_channel : Channel → Bool
is_cell_channel channel = is_default_channel channel || is_label_channel channel

abbrev pub read_channel : List ℕ → Result Channel TraceRefusal
read_channel word = where_channel is_cell_channel (channel_of word)

abbrev pub read_label : List ℕ → Result Channel TraceRefusal
read_label word = where_channel is_label_channel (channel_of word)

-- *A mark*: two numbers with a dot
abbrev pub mark_by : Option ℕ → Option ℕ → Option Mark
mark_by (Some packet) (Some frame) = Some (record { packet = packet; frame = frame })
mark_by packet frame = None

abbrev pub mark_of : List ℕ × List ℕ → Option Mark
mark_of halves = mark_by (number_in 0 (2 ^ 32 - 1) halves.0) (number_in 0 (2 ^ 64 - 1) halves.1)

abbrev pub marked : List ℕ → Option Mark
marked word = option_and_then mark_of (parts 46 word)

abbrev pub read_mark : List ℕ → Result Mark TraceRefusal
read_mark word = ok_or (marked word) BadMark

-- *A frame's payload*
abbrev pub payload_of : Option (List ℕ) → Result (List ℕ) TraceRefusal
payload_of None = Err BadHex
payload_of (Some octets) = if nat_lt greatest_payload (length octets) then Err BadLength else Ok octets

abbrev pub read_payload : List ℕ → Result (List ℕ) TraceRefusal
read_payload word = payload_of (hex_octets word)

-- *A flow*, by its identifier of 16 or 12 octets
abbrev pub flow_in : FlowKind → (identifier : List ℕ) → FlowId
flow_in kind.One octets =
    One (slice_index octets 1) (slice_index octets 2) (slice_index octets 3) (record { 0 = u32_at octets 4 })
    (record { 0 = u32_at octets 8 }) (u16_at octets 12) (u16_at octets 14)
flow_in kind.Two octets = Two (slice_index octets 2) (record { 0 = u32_at octets 4 }) (record { 0 = u32_at octets 8 })

abbrev pub kind_of_size : (octets : List ℕ) → FlowKind
kind_of_size octets = if length octets == 16 then kind.One else kind.Two

abbrev pub flow_unless : Option FlowFault → FlowId → Result FlowId TraceRefusal
flow_unless None flow = Ok flow
flow_unless (Some fault) flow = Err BadFlow

abbrev pub flow_by : FlowKind → (identifier : List ℕ) → Result FlowId TraceRefusal
flow_by kind octets = flow_unless (first_fault kind octets) (flow_in kind octets)

abbrev pub flow_of : Option (List ℕ) → Result FlowId TraceRefusal
flow_of None = Err BadHex
flow_of (Some octets) = flow_by (kind_of_size octets) octets

abbrev pub read_flow : List ℕ → Result FlowId TraceRefusal
read_flow word = flow_of (hex_octets word)
