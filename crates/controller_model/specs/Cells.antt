-- *Cells* and *Frames* (I.363.5 9.2): a cell goes to the reassembly of its channel, and a whole frame acts

use Rattle.std.specs.Prelude.{ℕ, Bool, ◌==◌, ◌&&◌, ◌/◌, ◌%◌, nat_lt, List, [], ◌∷◌, drop, Option, None, Some, Result, Ok, Err, if◌then◌else◌}
use Rattle.std.specs.Option.{option_and_then}
use Rattle.net_types.specs.declared.node.PortNo.{PortNo}
use Rattle.net_types.specs.declared.channel.Channel.{Channel}
use Rattle.net_types.specs.declared.number.Mark.{Mark}
use Rattle.net_types.specs.Label.{label_number_of}
use Rattle.port_model.specs.ipv4_packet.Packet.{protocol_of, source_of, first_fault}
use Rattle.port_model.specs.ipv4_packet.declared.validate.PacketFault.{PacketFault}
use Rattle.frame_model.specs.atm_cells.declared.cell.Cell.{Cell}
use Rattle.refusal_names.specs.flow_encaps.declared.default.EncapsFault.{EncapsFault}
use Rattle.refusal_names.specs.flow_encaps.Unwrapped.{default_unwrapped, unwrapped}
use Rattle.port_model.specs.ifmp_wire.declared.message.Message.{Message}
use Rattle.port_model.specs.ifmp_wire.declared.reader.Fault.{Fault}
use Rattle.port_model.specs.ifmp_wire.Fields.{decoded as ifmp_decoded}
use Rattle.port_model.specs.gsmp_wire.Fields.{decoded as gsmp_decoded}
use Rattle.frame_model.specs.link_model.declared.record.Cause.TheVariants.{Unbound}
use Rattle.frame_model.specs.link_model.declared.record.Layer.TheVariants.{Encaps, Packet, Ifmp}
use Rattle.frame_model.specs.link_model.declared.record.Record.TheVariants.{Bad, Loss}
use Rattle.refusal_names.specs.Names.{encaps_refusal, packet_refusal, ifmp_refusal}
use Rattle.frame_model.specs.Reassembly.{Reassembly, Taken, taken}
use Rattle.frame_model.specs.Frame.{Tested, tested, last_mark}
use Rattle.port_model.specs.Labels.{Label, is_bound}
use Rattle.port_model.specs.Port.{label_at}
use Rattle.port_model.specs.Counting.{counts, used}
use Rattle.port_model.specs.Hearing.{hears}
use Rattle.controller_model.specs.Controller.{Controller, Acted, Linked, free_slots, linked_at, with_linked, note, chain_of, chains_with, default_channel}
use Rattle.controller_model.specs.Performing.{at_port}
use Rattle.controller_model.specs.Packets.{forwards_packet, control_protocol}
use Rattle.controller_model.specs.Gsmp.{gsmp_holds}

-- *Who takes the cells of a channel of the control link*: the GSMP channel, a port's default channel, or the
-- channel of a label that is bound
pub data Taker : Type 0 where
  ForGsmp : Taker
  ForDefault : Linked → Taker
  ForLabel : Linked → Label → Taker

-- VPI 16p + x of the control link is VPI x of port p
abbrev pub port_on : Channel → PortNo
port_on channel = record { 0 = channel.vpi / 16 }

abbrev pub on_link : Channel → Channel
on_link channel = record channel { vpi = channel.vpi % 16 }

abbrev pub same_channel : Channel → Channel → Bool
same_channel a b = a.vpi == b.vpi && a.vci == b.vci

abbrev pub label_taker : Linked → Option Label → Option Taker
label_taker linked None = None
label_taker linked (Some label) = if is_bound label.state then Some (ForLabel linked label) else None

abbrev pub taker_at : Option Linked → (link : Channel) → Option Taker
taker_at None link = None
taker_at (Some linked) link =
    if same_channel link default_channel then Some (ForDefault linked)
    else label_taker linked (option_and_then (label_at linked.port) (label_number_of link))

abbrev pub taker_of : Controller → Channel → Option Taker
taker_of c channel =
    if same_channel channel default_channel then Some ForGsmp
    else taker_at (linked_at c (port_on channel)) (on_link channel)

abbrev pub reassembly_of : Controller → Taker → Reassembly
reassembly_of c ForGsmp = c.reassembly
reassembly_of c (ForDefault linked) = linked.reassembly
reassembly_of c (ForLabel linked label) = chain_of linked.chains label.number

abbrev pub with_reassembly : Acted → Taker → Reassembly → Acted
with_reassembly a ForGsmp r = record a { controller = record a.controller { reassembly = r } }
with_reassembly a (ForDefault linked) r = with_linked a (record linked { reassembly = r })
with_reassembly a (ForLabel linked label) r =
    with_linked a (record linked { chains = chains_with linked.chains label.number r })

-- *A packet of a label's channel*: it is rebuilt with the flow of the binding and forwarded; the label is in use
abbrev pub label_holds : Acted → Linked → Label → Mark → Result (List ℕ) EncapsFault → Acted
label_holds a linked label mark (Err fault) = note a (Bad a.controller.node Encaps (encaps_refusal fault))
label_holds a linked label mark (Ok packet) =
    at_port (forwards_packet a mark packet) linked.setup.port (λ setup desk w. used w label.number)

-- *A packet of a default channel*: a message of IFMP, or one that is forwarded and then counted
abbrev pub ifmp_holds : Acted → PortNo → (packet : List ℕ) → Result Message Fault → Acted
ifmp_holds a port packet (Err fault) = note a (Bad a.controller.node Ifmp (ifmp_refusal fault))
ifmp_holds a port packet (Ok message) =
    at_port a port (λ setup desk w. hears setup desk w (source_of packet) message)

abbrev pub counted_at : Acted → PortNo → (packet : List ℕ) → Acted
counted_at a port packet = at_port a port (λ setup desk w. counts setup desk w packet)

abbrev pub packet_holds : Acted → PortNo → Mark → (packet : List ℕ) → Option PacketFault → Acted
packet_holds a port mark packet (Some fault) = note a (Bad a.controller.node Packet (packet_refusal fault))
packet_holds a port mark packet None =
    if protocol_of packet == control_protocol
    then ifmp_holds a port packet (ifmp_decoded (drop 20 packet))
    else counted_at (forwards_packet a mark packet) port packet

abbrev pub default_holds : Acted → PortNo → Mark → Result (List ℕ) EncapsFault → Acted
default_holds a port mark (Err fault) = note a (Bad a.controller.node Encaps (encaps_refusal fault))
default_holds a port mark (Ok packet) = packet_holds a port mark packet (first_fault packet)

-- *Frames*: a frame that passed its test acts, by the channel on which it came
abbrev pub frame_holds : Acted → Taker → Mark → (payload : List ℕ) → Acted
frame_holds a ForGsmp mark payload = gsmp_holds a (gsmp_decoded payload)
frame_holds a (ForDefault linked) mark payload = default_holds a linked.setup.port mark (default_unwrapped payload)
frame_holds a (ForLabel linked label) mark payload = label_holds a linked label mark (unwrapped label.flow payload)

abbrev pub opened_frame : Acted → Taker → Mark → Option (List ℕ) → Acted
opened_frame a taker mark None = a
opened_frame a taker mark (Some payload) = frame_holds a taker mark payload

abbrev pub after_test : Acted → Taker → Mark → Tested → Acted
after_test a taker mark test = opened_frame (record a { notes = test.notes }) taker mark test.payload

-- a chain that a last cell ended is tested, and counts as the frame of its last cell
abbrev pub ends_frame : Acted → Taker → List Cell → Acted
ends_frame a taker [] = a
ends_frame a taker (cell ∷ cells) = after_test a taker (last_mark (cell ∷ cells)) (tested a.notes (cell ∷ cells))

-- *Cells*
abbrev pub after_cell : Acted → Taker → Taken → Acted
after_cell a taker t = ends_frame (with_reassembly (record a { notes = t.notes }) taker t.reassembly) taker t.ended

abbrev pub takes_cell : Acted → Cell → Option Taker → Acted
takes_cell a cell None = note a (Loss cell.mark Unbound)
takes_cell a cell (Some taker) =
    after_cell a taker (taken a.notes (nat_lt 0 (free_slots a.controller)) (reassembly_of a.controller taker) cell)

abbrev pub cell_comes : Acted → Cell → Acted
cell_comes a cell = takes_cell a cell (taker_of a.controller cell.header.channel)
