-- What the calls ask where a cell ends a frame that passes its test: between events, with numbers left

use Rattle.std.specs.Prelude.{◌≡◌, ℕ, ◌==◌, true, false, List, drop, None, Some, Ok}
use Rattle.controller_joining.specs.world_model.Words.{PortNo, Mark, HasNumbersLeft, protocol_of, source_of, Cell, default_unwrapped, InRange, forwards_packet, control_protocol, ForGsmp, ForDefault, ForLabel, taker_of}
use Rattle.controller_joining.specs.world_model.ipv4_packet.Packet.{first_fault}
use Rattle.controller_joining.specs.world_model.gsmp_wire.declared.message.Message.{Message}
use Rattle.controller_joining.specs.world_model.gsmp_wire.Fields.{decoded as gsmp_decoded}
use Rattle.controller_joining.specs.world_model.ifmp_wire.declared.message.Message.{Message as IfmpMessage}
use Rattle.controller_joining.specs.world_model.ifmp_wire.Fields.{decoded as ifmp_decoded}
use Rattle.controller_joining.specs.world_model.Controller.{Acted}
use Rattle.controller_joining.specs.world_model.Cells.{Taker}
use Rattle.law_controller_conditions.specs.controller_router.Conditions.{HasMark}
use Rattle.law_controller_conditions.specs.controller_router.Cells.{gathered, receipt}
use Rattle.controller_joining.specs.Conditions.{CanWorkOn}
use Rattle.controller_joining.specs.Answers.{CanBeTold}
use Rattle.law_controller_conditions.specs.Kept.{IsKept}
use Rattle.law_controller_conditions.specs.Calls.{hearing, counting}

-- *A packet of a default channel*: a message of IFMP is heard; any other packet is sent on, and then counted
pub record CanHoldPacket (a : Acted) (port : PortNo) (mark : Mark) (packet : List ℕ) : Type 0 where
  pub hears : (protocol_of packet == control_protocol) ≡ true → (message : IfmpMessage) → ifmp_decoded (drop 20 packet) ≡ Ok message → InRange message
      → CanWorkOn a port (hearing (source_of packet) message)
  pub counts : (protocol_of packet == control_protocol) ≡ false → CanWorkOn (forwards_packet a mark packet) port (counting packet)

-- *A frame* by the channel on which it came; one of a label's channel is only sent on
abbrev pub CanHold : Acted → Taker → Mark → (payload : List ℕ) → Type 0
CanHold a ForGsmp mark payload = (message : Message) → gsmp_decoded payload ≡ Ok message → CanBeTold a message
CanHold a (ForDefault linked) mark payload = (packet : List ℕ) → default_unwrapped payload ≡ Ok packet → first_fault packet ≡ None → CanHoldPacket a linked.setup.port mark packet
CanHold a (ForLabel linked label) mark payload = Unit {0}

-- *Where the cell is taken*: all of it still holds, a mark is left to send a packet on, and the frame can act
pub record CanTakeFrame (a : Acted) (taker : Taker) (cell : Cell) (payload : List ℕ) : Type 0 where
  pub kept : IsKept (gathered a taker (receipt a taker cell)).controller
  pub mark : HasMark (gathered a taker (receipt a taker cell))
  pub holds : CanHold (gathered a taker (receipt a taker cell)) taker cell.mark payload

abbrev pub FramesCanBeTaken : Type 0
FramesCanBeTaken = (a : Acted) (taker : Taker) (cell : Cell) (payload : List ℕ) → IsKept a.controller → HasNumbersLeft a.numbers → taker_of a.controller cell.header.channel ≡ Some taker
    → (receipt a taker cell).payload ≡ Some payload → CanTakeFrame a taker cell payload
