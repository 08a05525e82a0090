-- The text of a frame, by the octets of its payload

use Rattle.std.specs.Prelude.{ℕ, ◌==◌, List, ◌++◌, length, drop, codes, decimal, Option, None, Some, Result, Ok, Err, if◌then◌else◌}
use Rattle.ipv4_packet.specs.Packet.{source_of, destination_of, protocol_of, ttl_of, first_fault}
use Rattle.ipv4_packet.specs.declared.validate.PacketFault.{PacketFault}
use Rattle.flow_encaps.specs.declared.default.EncapsFault.{EncapsFault}
use Rattle.flow_encaps.specs.Unwrapped.{default_unwrapped}
use Rattle.ifmp_wire.specs.declared.message.Message.{Message as IfmpMessage}
use Rattle.ifmp_wire.specs.declared.reader.Fault.{Fault as IfmpFault}
use Rattle.ifmp_wire.specs.Fields.{decoded as ifmp_decoded}
use Rattle.gsmp_wire.specs.declared.message.Message.{Message as GsmpMessage}
use Rattle.gsmp_wire.specs.declared.fault.Fault.{Fault as GsmpFault}
use Rattle.gsmp_wire.specs.Fields.{decoded as gsmp_decoded}
use Rattle.lab_text.specs.Text.{hex_digits}
use Rattle.message_text.specs.Ifmp.{ifmp_text}
use Rattle.message_text.specs.Gsmp.{gsmp_text}
use Rattle.world_model.specs.Packets.{control_protocol}
use Rattle.record_text.specs.script_model.Texts.{address_text}

-- *Any octets*
abbrev pub octets_text : (octets : List ℕ) → List ℕ
octets_text octets = codes "octets " ++ hex_digits octets

-- *A packet* (RFC 791 3.1): where it comes from and goes to, its protocol and its Time To Live, and how many octets
-- it has
abbrev pub packet_text : (packet : List ℕ) → List ℕ
packet_text packet =
    codes "packet " ++ (address_text (source_of packet)
    ++ (codes " > " ++ (address_text (destination_of packet)
    ++ (codes " protocol " ++ (decimal (protocol_of packet)
    ++ (codes " ttl " ++ (decimal (ttl_of packet)
    ++ (codes " octets " ++ decimal (length packet)))))))))

-- *A packet of the control protocol* (RFC 1953) is the message behind its header, where there is one
abbrev pub message_or : (packet : List ℕ) → Result IfmpMessage IfmpFault → List ℕ
message_or packet (Ok message) = ifmp_text message
message_or packet (Err fault) = packet_text packet

abbrev pub carried_text : (packet : List ℕ) → List ℕ
carried_text packet =
    if protocol_of packet == control_protocol then message_or packet (ifmp_decoded (drop 20 packet)) else packet_text packet

-- *The default encapsulation* of a packet (RFC 1483 4.1)
abbrev pub packet_or : (octets packet : List ℕ) → Option PacketFault → List ℕ
packet_or octets packet None = carried_text packet
packet_or octets packet (Some fault) = octets_text octets

abbrev pub carried_or : (octets : List ℕ) → Result (List ℕ) EncapsFault → List ℕ
carried_or octets (Ok packet) = packet_or octets packet (first_fault packet)
carried_or octets (Err fault) = octets_text octets

-- *A frame*: a message of GSMP (RFC 1987); else a message of IFMP in its packet; else a packet; else its octets
abbrev pub frame_by : (octets : List ℕ) → Result GsmpMessage GsmpFault → List ℕ
frame_by octets (Ok message) = gsmp_text message
frame_by octets (Err fault) = carried_or octets (default_unwrapped octets)

unfoldable pub frame_text : (octets : List ℕ) → List ℕ
frame_text octets = frame_by octets (gsmp_decoded octets)
