-- The messages in the frames that come between the two controllers of a link

use Rattle.std.specs.Prelude.{◌≡◌, ◌⊎◌, ℕ, true, List, [], ◌∷◌, ◌++◌, None, Some}
use Rattle.world_model.specs.Words.{Addr, Up, Cell, Mark, Frame, payload_of, default_home, default_payload, ifmp_packet_of, ifmp_of, Topology, World, IsTopology, queue_at, next}
use Rattle.world_model.specs.ifmp_wire.declared.message.Message.{Message}
use Rattle.world_model.specs.ifmp_wire.Message.{octets_of as ifmp_octets}
use Rattle.world_model.specs.network_model.declared.link.LinkEnd.{LinkEnd}
use Rattle.world_model.specs.network_model.declared.event.Event.{Event}
use Rattle.world_model.specs.network_model.declared.event.Event.TheVariants.{Carry, Tick}
use Rattle.law_passing.specs.ordered_lists.Ordered.{Every}
use Rattle.law_live_orders.specs.Law.{is_last_on, coming, sent_at, IsOpenWay, LosesNone, IsBeside}

-- *A frame says a message* in a packet of this address, or holds no message of IFMP
abbrev pub Says : Addr → List Frame → Mark → Message → Type 0
Says address frames mark message = payload_of frames mark ≡ Some (default_payload (ifmp_packet_of address (ifmp_octets message)))

pub record HoldsNone (frames : List Frame) (mark : Mark) : Type 0 where
  pub payload : List ℕ
  pub made : payload_of frames mark ≡ Some payload
  pub no_message : ifmp_of payload ≡ None

-- *The frames of these marks say these messages*, in order; those that hold none are passed over
pub data AreSaid (address : Addr) (frames : List Frame) : List Mark → List Message → Type 0 where
  none : AreSaid address frames [] []
  says : {marks : List Mark} {messages : List Message} (mark : Mark) (message : Message) → Says address frames mark message
      → AreSaid address frames marks messages → AreSaid address frames (mark ∷ marks) (message ∷ messages)
  passed : {marks : List Mark} {messages : List Message} (mark : Mark) → HoldsNone frames mark
      → AreSaid address frames marks messages → AreSaid address frames (mark ∷ marks) messages

abbrev pub AreComing : Addr → World → (one far : LinkEnd) → List Message → Type 0
AreComing address w one far messages = AreSaid address w.notes.frames (coming w one far) messages

-- *They stay* while the frames do
abbrev pub StayMade : (before after : List Frame) → List Mark → Type 0
StayMade before after marks =
    Every (λ (mark : Mark). (payload : List ℕ) → payload_of before mark ≡ Some payload → payload_of after mark ≡ Some payload) marks

abbrev pub SayingsStay : Type 0
SayingsStay = (address : Addr) (before after : List Frame) (marks : List Mark) (messages : List Message) → StayMade before after marks
    → AreSaid address before marks messages → AreSaid address after marks messages

-- *The first one is heard*: the cell that is brought to the far controller ends its frame, and the rest is still to come; or it ends
-- a frame without a message
pub record IsFirst (address : Addr) (w v : World) (one far : LinkEnd) (mark : Mark) (messages : List Message) : Type 0 where
  pub message : Message
  pub rest : List Message
  pub are : messages ≡ message ∷ rest
  pub says : Says address w.notes.frames mark message
  pub later : AreComing address v one far rest

pub record IsPassed (address : Addr) (w v : World) (one far : LinkEnd) (mark : Mark) (messages : List Message) : Type 0 where
  pub holds_none : HoldsNone w.notes.frames mark
  pub later : AreComing address v one far messages

abbrev pub FirstMessagesAreHeard : Type 0
FirstMessagesAreHeard = (topology : Topology) (w : World) (one far : LinkEnd) (cell : Cell) (cells : List Cell) (address : Addr) (messages : List Message)
    → IsTopology topology → IsOpenWay topology w one far → queue_at w (Up far.node) ≡ cell ∷ cells
    → is_last_on (default_home far.port).channel cell ≡ true → AreComing address w one far messages
    → StayMade w.notes.frames (next topology w (Carry (Up far.node))).notes.frames (coming w one far)
    → IsFirst address w (next topology w (Carry (Up far.node))) one far cell.mark messages
    ⊎ IsPassed address w (next topology w (Carry (Up far.node))) one far cell.mark messages

-- *What the near controller says comes last*, in its tick, or as it is brought a cell
abbrev pub MessagesSentComeLast : Type 0
MessagesSentComeLast = (topology : Topology) (w : World) (one far : LinkEnd) (event : Event) (address : Addr) (messages more : List Message)
    → IsTopology topology → IsOpenWay topology w one far → (event ≡ Tick one.node) ⊎ (event ≡ Carry (Up one.node))
    → AreComing address w one far messages → StayMade w.notes.frames (next topology w event).notes.frames (coming w one far)
    → AreSaid address (next topology w event).notes.frames (sent_at topology w event one) more
    → AreComing address (next topology w event) one far (messages ++ more)

-- *All else leaves them*
abbrev pub AllElseLeavesMessages : Type 0
AllElseLeavesMessages = (topology : Topology) (w : World) (one far : LinkEnd) (event : Event) (address : Addr) (messages : List Message)
    → IsTopology topology → IsOpenWay topology w one far → LosesNone topology w one far event → IsBeside w one far event
    → AreComing address w one far messages → StayMade w.notes.frames (next topology w event).notes.frames (coming w one far)
    → AreComing address (next topology w event) one far messages
