-- The name under which a record or a text shows why octets are refused: that of the fault

use Rattle.ipv4_packet.specs.declared.validate.PacketFault.{PacketFault}
use Rattle.ipv4_packet.specs.declared.validate.PacketFault.TheVariants as packet
use Rattle.flow_encaps.specs.declared.default.EncapsFault.{EncapsFault}
use Rattle.flow_encaps.specs.declared.default.EncapsFault.TheVariants as encaps
use Rattle.ifmp_wire.specs.declared.reader.Fault.{Fault as IfmpFault}
use Rattle.ifmp_wire.specs.declared.reader.Fault.TheVariants as ifmp
use Rattle.gsmp_wire.specs.declared.fault.Fault.{Fault as GsmpFault}
use Rattle.gsmp_wire.specs.declared.fault.Fault.TheVariants as gsmp
use Rattle.link_model.specs.declared.record.Refusal.{Refusal}
use Rattle.link_model.specs.declared.record.Refusal.TheVariants as refusal
use Rattle.link_model.specs.declared.record.Refusal.TheVariants.{Short, Version, Options, Length, TooLong, Checksum, BadSnap, Snap, MessageType, Result, Code, Size, Reserved}

-- an IPv4 packet (RFC 791 3.1)
abbrev pub packet_refusal : PacketFault → Refusal
packet_refusal packet.Short = Short
packet_refusal packet.Version = Version
packet_refusal packet.Options = Options
packet_refusal packet.Length = Length
packet_refusal packet.TooLong = TooLong
packet_refusal packet.Checksum = Checksum

-- the payload of a frame (RFC 1483 4.1, RFC 1954)
abbrev pub encaps_refusal : EncapsFault → Refusal
encaps_refusal encaps.Short = Short
encaps_refusal encaps.BadSnap = BadSnap
encaps_refusal encaps.Reserved = Reserved
encaps_refusal encaps.Length = Length
encaps_refusal encaps.Checksum = Checksum

-- an IFMP message (RFC 1953)
abbrev pub ifmp_refusal : IfmpFault → Refusal
ifmp_refusal ifmp.Short = refusal.Short
ifmp_refusal ifmp.Version = refusal.Version
ifmp_refusal ifmp.OpCode = refusal.OpCode
ifmp_refusal ifmp.Size = refusal.Size
ifmp_refusal ifmp.Checksum = refusal.Checksum
ifmp_refusal ifmp.FlowType = refusal.FlowType
ifmp_refusal ifmp.FlowLength = refusal.FlowLength
ifmp_refusal ifmp.ZeroLifetime = refusal.ZeroLifetime
ifmp_refusal ifmp.LabelReserved = refusal.LabelReserved
ifmp_refusal ifmp.RangeOrder = refusal.RangeOrder
ifmp_refusal ifmp.ErrorCode = refusal.ErrorCode
ifmp_refusal ifmp.Reserved = refusal.Reserved
ifmp_refusal ifmp.FlowFields = refusal.FlowFields

-- a GSMP message (RFC 1987)
abbrev pub gsmp_refusal : GsmpFault → Refusal
gsmp_refusal gsmp.Short = Short
gsmp_refusal gsmp.Snap = Snap
gsmp_refusal gsmp.Version = Version
gsmp_refusal gsmp.MessageType = MessageType
gsmp_refusal gsmp.Result = Result
gsmp_refusal gsmp.Code = Code
gsmp_refusal gsmp.Size = Size
gsmp_refusal gsmp.Reserved = Reserved
