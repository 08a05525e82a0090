-- *Sending*: a frame is cut into cells that join the queue to the switch, all of them or none

use Rattle.std.specs.Prelude.{ℕ, ◌++◌, List}
use Rattle.net_types.specs.declared.node.PortNo.{PortNo}
use Rattle.net_types.specs.declared.number.Mark.{Mark}
use Rattle.net_types.specs.declared.channel.Channel.{Channel}
use Rattle.net_types.specs.Number.{next_control, with_control}
use Rattle.port_model.specs.ipv4_packet.Packet.{ifmp_packet_of}
use Rattle.frame_model.specs.atm_cells.declared.cell.Cell.{Cell}
use Rattle.refusal_names.specs.flow_encaps.Default.{default_payload}
use Rattle.port_model.specs.ifmp_wire.declared.message.Message.{Message as IfmpMessage}
use Rattle.port_model.specs.ifmp_wire.Message.{octets_of as ifmp_octets}
use Rattle.port_model.specs.gsmp_wire.declared.message.Message.{Message as GsmpMessage}
use Rattle.port_model.specs.gsmp_wire.Layout.{octets_of as gsmp_octets}
use Rattle.frame_model.specs.Sending.{Sender, sent_frame}
use Rattle.controller_model.specs.Controller.{Controller, Acted, free_slots, default_channel, default_home}

abbrev pub with_cells : Controller → List Cell → Controller
with_cells c cells = record c { queue = c.queue ++ cells }

-- a frame of an actor, or one that is forged
abbrev pub sends : Acted → Channel → Mark → (payload : List ℕ) → Acted
sends a channel mark payload =
    let before : Sender Controller = record { queues = a.controller; notes = a.notes } in
    let after = sent_frame (free_slots a.controller) (with_cells a.controller) before channel mark payload in
    record a { controller = after.queues; notes = after.notes }

-- the frame of a control message has the next control mark
abbrev pub sends_control : Acted → Channel → (payload : List ℕ) → Acted
sends_control a channel payload =
    sends (record a { numbers = with_control a.numbers }) channel (next_control a.numbers) payload

-- GSMP goes to the switch itself (RFC 1987)
abbrev pub says_gsmp : Acted → GsmpMessage → Acted
says_gsmp a message = sends_control a default_channel (gsmp_octets message)

-- IFMP goes in a packet of its own to the other end of a port's link (RFC 1953)
abbrev pub says_ifmp : PortNo → Acted → IfmpMessage → Acted
says_ifmp port a message =
    sends_control a (default_home port).channel
    (default_payload (ifmp_packet_of a.controller.address (ifmp_octets message)))
