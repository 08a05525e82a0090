-- What a network shows of the adjacency of the two ports of a link (RFC 1953): both sides, and the greetings that are on their
-- way between them

use Rattle.std.specs.Prelude.{◌≡◌, ◌≢◌, ℕ, ◌<◌, ◌^◌, List, [], ◌∷◌, Option, None, Some}
use Rattle.world_model.specs.Words.{Addr, Hello, Peer, Said, hello_of, Mark, Frame, payload_of, ifmp_of, Linked, World}
use Rattle.world_model.specs.ifmp_wire.declared.message.Message.TheVariants.{Adjacency}
use Rattle.world_model.specs.network_model.declared.link.LinkEnd.{LinkEnd}
use Rattle.law_live_waking.specs.law_passing.ordered_lists.Ordered.{Every}
use Rattle.law_live_waking.specs.law_live_meetings.Exchange.{Ends}
use Rattle.law_live_worlds.specs.Law.{Shows}
use Rattle.law_live_waking.specs.law_live_orders.Law.{coming}
use Rattle.law_live_waking.specs.law_live_orders.Messages.{Says}

-- *A frame greets* from this address: it says an adjacency message of a sender there; or it greets nobody
pub record Greets (address : Addr) (frames : List Frame) (mark : Mark) (message : Said Peer) : Type 0 where
  pub next : ℕ
  pub sender : message.sender.address ≡ address
  pub says : Says address frames mark (Adjacency (hello_of next message))

pub record GreetsNobody (frames : List Frame) (mark : Mark) : Type 0 where
  pub payload : List ℕ
  pub made : payload_of frames mark ≡ Some payload
  pub unread : (hello : Hello) → ifmp_of payload ≢ Some (Adjacency hello)

-- *The frames of these marks greet so*, in order; redirection messages and packets between them are passed over
pub data Greet (address : Addr) (frames : List Frame) : List Mark → List (Said Peer) → Type 0 where
  none : Greet address frames [] []
  greets : {marks : List Mark} {messages : List (Said Peer)} (mark : Mark) (message : Said Peer) → Greets address frames mark message
      → Greet address frames marks messages → Greet address frames (mark ∷ marks) (message ∷ messages)
  passed : {marks : List Mark} {messages : List (Said Peer)} (mark : Mark) → GreetsNobody frames mark
      → Greet address frames marks messages → Greet address frames (mark ∷ marks) messages

-- *A greeting's numbers can be written*: the parties that it names have an instance and an address of 32 bits each
abbrev pub FitsPeer : Peer → Type 0
FitsPeer peer = (peer.instance.0 < 2 ^ 32) × (peer.address.0 < 2 ^ 32)

abbrev pub FitsStored : Option Peer → Type 0
FitsStored None = Unit {0}
FitsStored (Some peer) = FitsPeer peer

abbrev pub IsWritten : Said Peer → Type 0
IsWritten message = FitsPeer message.sender × FitsStored message.receiver

-- so can those of the parties that a port's side knows
abbrev pub HasFitSide : World → LinkEnd → Type 0
HasFitSide w end = (linked : Linked) → Shows w end linked → FitsPeer linked.port.adjacency.own × FitsStored linked.port.adjacency.stored

-- *The two ports of a link*: their sides, and the greetings that come to each, in the frames whose last cells wait on the way of
-- the default channel from the other's controller
pub record ShowsEnds (w : World) (one far : LinkEnd) (ends : Ends Peer) : Type 0 where
  pub linked : Linked
  pub far_linked : Linked
  pub shows : Shows w one linked
  pub far_shows : Shows w far far_linked
  pub side : ends.one.side ≡ linked.port.adjacency
  pub far_side : ends.other.side ≡ far_linked.port.adjacency
  pub there : Greet shows.site.controller.address w.notes.frames (coming w one far) ends.other.comes
  pub back : Greet far_shows.site.controller.address w.notes.frames (coming w far one) ends.one.comes
  pub there_written : Every IsWritten ends.other.comes
  pub back_written : Every IsWritten ends.one.comes
