-- A frame that a controller hears in peace keeps all joins

use Rattle.std.specs.Prelude.{◌≡◌, ℕ, ◌==◌, false, true, Bool, List, ◌∷◌, drop, Option, None, Some, Result, Ok, Err}
use Rattle.world_model.specs.Words.{Addr, Mark, control_protocol, protocol_of, source_of, PacketFault, EncapsFault, default_unwrapped, Linked, linked_at, ForGsmp, ForDefault, ForLabel, frame_holds}
use Rattle.world_model.specs.ipv4_packet.Packet.{first_fault}
use Rattle.world_model.specs.ifmp_wire.Fields.{decoded as ifmp_decoded}
use Rattle.world_model.specs.ifmp_wire.declared.message.Message.{Message}
use Rattle.world_model.specs.ifmp_wire.declared.reader.Fault.{Fault}
use Rattle.world_model.specs.gsmp_wire.Fields.{decoded as gsmp_decoded}
use Rattle.world_model.specs.Controller.{Acted}
use Rattle.world_model.specs.Cells.{Taker}
use Rattle.law_live_links.specs.Law.{EndOfLink, AreAgreed}
use Rattle.law_live_others.specs.Law.{IsUp, IsOnlyCounted}
use Rattle.law_live_numbers.specs.Law.{IsHarmless}
use Rattle.law_live_joining.specs.Joins.{KeepsJoins}

-- *A message of the peer*, in peace: the port agrees with the other end of its link, of whose messages this is the first that it
-- has yet to hear
pub record IsPeers (linked : Linked) (source : Addr) (message : Message) : Type 0 where
  pub said : List Message
  pub other : EndOfLink
  pub rest : List Message
  pub agreed : AreAgreed (record { setup = linked.setup; port = linked.port; said = said }) other
  pub first : other.said ≡ message ∷ rest
  pub from : source ≡ other.port.adjacency.own.address

-- *On a default channel* nothing, a packet that is only counted, or a message of the peer
abbrev pub IsPeersIf : Linked → (source : Addr) → Result Message Fault → Type 0
IsPeersIf linked source (Err fault) = Unit {0}
IsPeersIf linked source (Ok message) = IsPeers linked source message

abbrev pub IsPeacefulAs : Acted → Linked → (packet : List ℕ) → (is_message : Bool) → Type 0
IsPeacefulAs a linked packet true = IsPeersIf linked (source_of packet) (ifmp_decoded (drop 20 packet))
IsPeacefulAs a linked packet false = IsOnlyCounted a packet linked

abbrev pub IsPeacefulPacket : Acted → Linked → (packet : List ℕ) → Option PacketFault → Type 0
IsPeacefulPacket a linked packet (Some fault) = Unit {0}
IsPeacefulPacket a linked packet None = IsPeacefulAs a linked packet (protocol_of packet == control_protocol)

abbrev pub IsPeacefulIn : Acted → Linked → Result (List ℕ) EncapsFault → Type 0
IsPeacefulIn a linked (Err fault) = Unit {0}
IsPeacefulIn a linked (Ok packet) = IsPeacefulPacket a linked packet (first_fault packet)

-- *A frame in peace*: so on a default channel; on the channel of a label whatever comes; on the GSMP channel what is harmless
abbrev pub IsFrameInPeace : Acted → Taker → (payload : List ℕ) → Type 0
IsFrameInPeace a (ForDefault q) payload =
    (linked : Linked) → linked_at a.controller q.setup.port ≡ Some linked → IsPeacefulIn a linked (default_unwrapped payload)
IsFrameInPeace a (ForLabel q label) payload = Unit {0}
IsFrameInPeace a ForGsmp payload = IsHarmless a (gsmp_decoded payload)

-- *It keeps all joins*, where the controller is in Estab with its switch
abbrev pub FramesKeepJoins : Type 0
FramesKeepJoins = (a : Acted) (taker : Taker) (mark : Mark) (payload : List ℕ) → IsUp a → IsFrameInPeace a taker payload
    → KeepsJoins a.controller (frame_holds a taker mark payload).controller
