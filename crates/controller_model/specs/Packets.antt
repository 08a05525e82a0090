-- *Forwarding* (RFC 1812 5.2.1): a packet at the node is delivered, dropped, or sent on, under a grant's label
-- where its flow has one. And a packet that enters the network here.

use Rattle.std.specs.Prelude.{ℕ, Bool, ◌==◌, ◌&&◌, nat_lt, List, Option, None, Some, if◌then◌else◌}
use Rattle.std.specs.Option.{option_and_then}
use Rattle.net_types.specs.declared.node.PortNo.{PortNo}
use Rattle.net_types.specs.declared.channel.Channel.{Channel}
use Rattle.net_types.specs.declared.number.Mark.{Mark}
use Rattle.port_model.specs.ipv4_packet.Packet.{protocol_of, first_fault}
use Rattle.port_model.specs.ipv4_packet.declared.validate.PacketFault.{PacketFault}
use Rattle.ipv4_forward.specs.Hop.{hop_of, onward}
use Rattle.ipv4_forward.specs.declared.outcome.Hop.{Hop}
use Rattle.ipv4_forward.specs.declared.outcome.Hop.TheVariants.{Here, On, NoRoute, Expired}
use Rattle.port_model.specs.ipv4_packet.Flow.{kind_of}
use Rattle.refusal_names.specs.flow_encaps.Default.{default_payload}
use Rattle.refusal_names.specs.flow_encaps.Labelled.{labelled_payload}
use Rattle.frame_model.specs.link_model.declared.record.DropCause.TheVariants.{NoRoute as NoRouteCause, Expired as ExpiredCause}
use Rattle.frame_model.specs.link_model.declared.record.Record.TheVariants.{Delivered, Dropped}
use Rattle.frame_model.specs.link_model.declared.record.Refusal.{Refusal}
use Rattle.frame_model.specs.link_model.declared.record.Refusal.TheVariants.{ControlProtocol}
use Rattle.refusal_names.specs.Names.{packet_refusal}
use Rattle.frame_model.specs.Frame.{next_mark}
use Rattle.port_model.specs.Setup.{control_end}
use Rattle.port_model.specs.Grants.{Grant, grant_matching}
use Rattle.controller_model.specs.Controller.{Controller, Acted, linked_at, note, default_home}
use Rattle.controller_model.specs.Sending.{sends, sends_control}

-- a packet's next frame; one that came out of a control frame, whose numbers begin at 1, goes on in a control
-- frame
abbrev pub is_control : Mark → Bool
is_control mark = mark.packet == 0 && nat_lt 0 mark.frame

abbrev pub sends_next : Acted → (came : Mark) → Channel → (payload : List ℕ) → Acted
sends_next a came channel payload =
    if is_control came then sends_control a channel payload else sends a channel (next_mark came) payload

-- under a grant's label, or on the default channel
abbrev pub goes_by : Acted → (came : Mark) → PortNo → (packet : List ℕ) → Option Grant → Acted
goes_by a came port packet None = sends_next a came (default_home port).channel (default_payload packet)
goes_by a came port packet (Some grant) =
    sends_next a came (control_end port grant.label).channel (labelled_payload (kind_of grant.flow) packet)

abbrev pub grant_by : Controller → PortNo → (packet : List ℕ) → Option Grant
grant_by c port packet = option_and_then (λ linked. grant_matching linked.port.grants packet) (linked_at c port)

abbrev pub goes_on : Acted → (came : Mark) → PortNo → (packet : List ℕ) → Acted
goes_on a came port packet = goes_by a came port packet (grant_by a.controller port packet)

-- a packet stands at the node; it came in a frame of this mark
abbrev pub forwarded : Acted → (came : Mark) → (packet : List ℕ) → Hop → Acted
forwarded a came packet Here = note a (Delivered a.controller.node came.packet packet)
forwarded a came packet NoRoute = note a (Dropped a.controller.node came.packet NoRouteCause)
forwarded a came packet Expired = note a (Dropped a.controller.node came.packet ExpiredCause)
forwarded a came packet (On port) = goes_on a came port (onward packet)

abbrev pub forwards_packet : Acted → (came : Mark) → (packet : List ℕ) → Acted
forwards_packet a came packet = forwarded a came packet (hop_of a.controller.table packet)

-- the protocol of IFMP (RFC 1953), which no sender may use
abbrev pub control_protocol : ℕ
control_protocol = 101

-- *A packet enters*: why it is refused, if it is; else it is forwarded, and its first frame will be number 1
abbrev pub refused_by : (octets : List ℕ) → Option PacketFault → Option Refusal
refused_by octets (Some fault) = Some (packet_refusal fault)
refused_by octets None = if protocol_of octets == control_protocol then Some ControlProtocol else None

abbrev pub inject_refusal : (octets : List ℕ) → Option Refusal
inject_refusal octets = refused_by octets (first_fault octets)

abbrev pub injected : Acted → (number : ℕ) → (packet : List ℕ) → Acted
injected a number packet = forwards_packet a (record { packet = number; frame = 0 }) packet
