-- The words by which a report names causes, layers and refusals

use Rattle.std.specs.Prelude.{ℕ, List, codes}
use Rattle.link_model.specs.declared.record.Cause.{Cause}
use Rattle.link_model.specs.declared.record.Cause.TheVariants.{Lost, Unconnected, PoolFull, Cut, Unbound, Broken}
use Rattle.link_model.specs.declared.record.DropCause.{DropCause}
use Rattle.link_model.specs.declared.record.DropCause.TheVariants.{NoRoute, Expired}
use Rattle.link_model.specs.declared.record.Layer.{Layer}
use Rattle.link_model.specs.declared.record.Layer.TheVariants.{Encaps, Packet, Ifmp, Gsmp}
use Rattle.link_model.specs.declared.record.Refusal.{Refusal}
use Rattle.link_model.specs.declared.record.Refusal.TheVariants.{Short, Version, Options, Length, TooLong, Checksum, ControlProtocol, BadSnap, Snap, OpCode, MessageType, Result, Code, Size, FlowType, FlowLength, ZeroLifetime, LabelReserved, RangeOrder, ErrorCode, Reserved, FlowFields}

abbrev pub cause_text : Cause → List ℕ
cause_text Lost = codes "Lost"
cause_text Unconnected = codes "Unconnected"
cause_text PoolFull = codes "PoolFull"
cause_text Cut = codes "Cut"
cause_text Unbound = codes "Unbound"
cause_text Broken = codes "Broken"

abbrev pub drop_text : DropCause → List ℕ
drop_text NoRoute = codes "NoRoute"
drop_text Expired = codes "Expired"

abbrev pub layer_text : Layer → List ℕ
layer_text Encaps = codes "encaps"
layer_text Packet = codes "packet"
layer_text Ifmp = codes "ifmp"
layer_text Gsmp = codes "gsmp"

abbrev pub refusal_text : Refusal → List ℕ
refusal_text Short = codes "Short"
refusal_text Version = codes "Version"
refusal_text Options = codes "Options"
refusal_text Length = codes "Length"
refusal_text TooLong = codes "TooLong"
refusal_text Checksum = codes "Checksum"
refusal_text ControlProtocol = codes "ControlProtocol"
refusal_text BadSnap = codes "BadSnap"
refusal_text Snap = codes "Snap"
refusal_text OpCode = codes "OpCode"
refusal_text MessageType = codes "MessageType"
refusal_text Result = codes "Result"
refusal_text Code = codes "Code"
refusal_text Size = codes "Size"
refusal_text FlowType = codes "FlowType"
refusal_text FlowLength = codes "FlowLength"
refusal_text ZeroLifetime = codes "ZeroLifetime"
refusal_text LabelReserved = codes "LabelReserved"
refusal_text RangeOrder = codes "RangeOrder"
refusal_text ErrorCode = codes "ErrorCode"
refusal_text Reserved = codes "Reserved"
refusal_text FlowFields = codes "FlowFields"
