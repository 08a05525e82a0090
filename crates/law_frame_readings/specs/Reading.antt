-- What a receiver reads in a frame that was made in a network: what its maker wrote, and nothing else

use Rattle.std.specs.Prelude.{◌≡◌, ◌≢◌, ℕ, ◌<◌, ◌^◌, ◌==◌, true, false, List, drop, None, Some, Ok}
use Rattle.law_controller_lifts.specs.world_model.Words.{Mark, protocol_of, source_of, ifmp_packet_of, FlowId, default_payload, Carries, default_unwrapped, unwrapped, InRange, FitsMessage, Fits, Standing, Frame, payload_of, control_protocol, ifmp_under, gsmp_under, copy_of, copy_under}
use Rattle.law_controller_lifts.specs.world_model.ipv4_packet.Packet.{first_fault}
use Rattle.law_controller_lifts.specs.world_model.ifmp_wire.declared.message.Message.{Message as IfmpMessage}
use Rattle.law_controller_lifts.specs.world_model.ifmp_wire.Message.{octets_of as ifmp_octets}
use Rattle.law_controller_lifts.specs.world_model.ifmp_wire.Fields.{decoded as ifmp_decoded}
use Rattle.law_controller_lifts.specs.world_model.gsmp_wire.declared.message.Message.{Message as GsmpMessage}
use Rattle.law_controller_lifts.specs.world_model.gsmp_wire.Layout.{octets_of as gsmp_octets}
use Rattle.law_controller_lifts.specs.world_model.gsmp_wire.Fields.{decoded as gsmp_decoded}
use Rattle.law_world_views.specs.law_gsmp_reading.Said.{IsSaid}
use Rattle.law_controller_lifts.specs.law_controller_views.Lifted.{payload_by}
use Rattle.law_controller_lifts.specs.law_shown_cells.Label.{Told, told_of}
use Rattle.law_world_views.specs.Made.{IsFit, IsMadeAs, AreMade}

-- *A message of IFMP*, as it was told, under a control mark
pub record IsToldAs (mark : Mark) (payload : List ℕ) (item : Told) : Type 0 where
  pub control : mark.packet ≡ 0
  pub source : item.source.0 < 2 ^ 32
  pub in_range : InRange item.message
  pub fits : FitsMessage item.message
  pub filled : payload ≡ payload_by item.source item.message

-- *A message of GSMP*, as it was said, under a control mark
pub record IsSaidAs (mark : Mark) (payload : List ℕ) (message : GsmpMessage) : Type 0 where
  pub control : mark.packet ≡ 0
  pub fits : Fits message
  pub said : IsSaid message
  pub filled : payload ≡ gsmp_octets message

-- *What stands in the default encapsulation*: a packet that may be in the network, or that of a message of IFMP
pub data Holds (mark : Mark) (payload packet : List ℕ) : Type 0 where
  sent : mark.packet ≢ 0 → IsFit packet → payload ≡ default_payload packet → Holds mark payload packet
  told : (item : Told) → IsToldAs mark payload item → packet ≡ ifmp_packet_of item.source (ifmp_octets item.message) → Holds mark payload packet

-- a packet that may be in the network passes the tests of a receiver, and is no message
pub record IsForwarded (packet : List ℕ) : Type 0 where
  pub whole : first_fault packet ≡ None
  pub other : (protocol_of packet == control_protocol) ≡ false

-- and that of a message does, and is read as the message
pub record IsHeardAs (packet : List ℕ) (item : Told) : Type 0 where
  pub whole : first_fault packet ≡ None
  pub control : (protocol_of packet == control_protocol) ≡ true
  pub message : ifmp_decoded (drop 20 packet) ≡ Ok item.message
  pub source : source_of packet ≡ item.source

-- *One frame*, by its payload
pub record FramesAreRead : Type 0 where
  pub default : (mark : Mark) (payload packet : List ℕ) → IsMadeAs mark payload → default_unwrapped payload ≡ Ok packet → Holds mark payload packet
  pub forwarded : (packet : List ℕ) → IsFit packet → IsForwarded packet
  pub heard : (mark : Mark) (payload : List ℕ) (item : Told) → IsToldAs mark payload item → IsHeardAs (ifmp_packet_of item.source (ifmp_octets item.message)) item
  pub told : (mark : Mark) (payload : List ℕ) (item : Told) → IsMadeAs mark payload → told_of payload ≡ Some item → IsToldAs mark payload item
  pub said : (mark : Mark) (payload : List ℕ) (message : GsmpMessage) → IsMadeAs mark payload → gsmp_decoded payload ≡ Ok message → IsSaidAs mark payload message
  pub labelled : (flow : FlowId) (payload packet : List ℕ) → Carries flow packet payload → unwrapped flow payload ≡ Ok packet

-- *Any frame of a run*, by its mark: messages come under control marks alone, and in the words of their sender
pub record HasTold (frames : List Frame) (mark : Mark) (message : IfmpMessage) : Type 0 where
  pub item : Told
  pub is : item.message ≡ message
  pub payload : List ℕ
  pub made : payload_of frames mark ≡ Some payload
  pub told : IsToldAs mark payload item

pub record HasSaid (frames : List Frame) (mark : Mark) (message : GsmpMessage) : Type 0 where
  pub payload : List ℕ
  pub made : payload_of frames mark ≡ Some payload
  pub said : IsSaidAs mark payload message

pub record MarksAreRead : Type 0 where
  pub ifmp : (frames : List Frame) (mark : Mark) (message : IfmpMessage) → AreMade frames → ifmp_under frames mark ≡ Some message → HasTold frames mark message
  pub gsmp : (frames : List Frame) (mark : Mark) (message : GsmpMessage) → AreMade frames → gsmp_under frames mark ≡ Some message → HasSaid frames mark message
  pub copy : (frames : List Frame) (mark : Mark) (s : Standing) → AreMade frames → copy_under frames mark ≡ Some s
      → (message : GsmpMessage) × (copy_of message ≡ Some s) × HasSaid frames mark message
  -- under a packet's mark there is none
  pub no_ifmp : (frames : List Frame) (mark : Mark) → AreMade frames → mark.packet ≢ 0 → ifmp_under frames mark ≡ None
  pub no_gsmp : (frames : List Frame) (mark : Mark) → AreMade frames → mark.packet ≢ 0 → gsmp_under frames mark ≡ None
  pub no_copy : (frames : List Frame) (mark : Mark) → AreMade frames → mark.packet ≢ 0 → copy_under frames mark ≡ None
