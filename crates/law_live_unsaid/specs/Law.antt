-- What a controller hears to which one of its ports has nothing to say makes it say nothing on that port's default channel

use Rattle.std.specs.Prelude.{◌≡◌, ℕ, ◌<◌, ◌^◌, true, List, [], ◌++◌, Ok, Some}
use Rattle.world_model.specs.Words.{PortNo, Addr, Cell, Mark, IsLinkPort, InRange, FitsMessage, Carries, is_label_number, default_home, default_payload, default_unwrapped, ifmp_packet_of, unwrapped, forwards_packet, Setup, Label, Grant, hears, Controller, Linked, linked_at, begins, at_port, ForGsmp, ForDefault, ForLabel, frame_holds}
use Rattle.world_model.specs.ifmp_wire.declared.message.Message.{Message}
use Rattle.world_model.specs.ifmp_wire.Message.{octets_of as ifmp_octets}
use Rattle.world_model.specs.port_model.declared.action.Action.{Action}
use Rattle.world_model.specs.port_model.declared.action.Action.TheVariants.{Say, Reset}
use Rattle.world_model.specs.Controller.{Acted}
use Rattle.world_model.specs.Cells.{Taker}
use Rattle.law_port_facts.specs.ordered_lists.Ordered.{Every}
use Rattle.law_controller_facts.specs.Sound.{IsSound}
use Rattle.law_frame_readings.specs.Reading.{IsForwarded}
use Rattle.law_frame_readings.specs.law_world_views.Made.{IsFit}
use Rattle.law_live_links.specs.Law.{EndOfLink, HearsOn}
use Rattle.law_live_others.specs.Law.{IsForOthers}
use Rattle.law_live_numbers.specs.Law.{work_at}
use Rattle.law_live_orders.specs.Law.{last_marks}
use Rattle.law_live_orders.specs.Messages.{HoldsNone}

-- *No message is said* on the default channel of a port: behind what waited for the switch stand cells, and each frame of these on
-- that channel holds no message of IFMP
pub record SaysNone (port : PortNo) (a b : Acted) : Type 0 where
  pub later : List Cell
  pub queue : b.controller.queue ≡ a.controller.queue ++ later
  pub none : Every (HoldsNone b.notes.frames) (last_marks (default_home port).channel later)

-- *A frame of a label* holds a packet that may be sent on, if any: it passes the tests of a receiver, and is no message
abbrev pub HoldsPacket : Label → (payload : List ℕ) → Type 0
HoldsPacket label payload = (packet : List ℕ) → unwrapped label.flow payload ≡ Ok packet → IsForwarded packet

-- *Neither to say a message nor to be reset* is what a port asks
abbrev pub IsHushed : Action → Type 0
IsHushed (Say message) = ⊥
IsHushed Reset = ⊥
IsHushed action = Unit {0}

-- *The port has nothing to say* to a frame: on its own default channel it asks neither then, whatever the frame holds; on another
-- port's anything may come; on the channel of a label such a packet; on the GSMP channel what is for others
abbrev pub IsUnanswered : PortNo → Acted → Taker → (payload : List ℕ) → Type 0
IsUnanswered port a (ForDefault q) payload =
    q.setup.port.0 ≡ port.0 → (linked : Linked) → linked_at a.controller q.setup.port ≡ Some linked → Every IsHushed (work_at a linked (default_unwrapped payload)).actions
IsUnanswered port a (ForLabel q label) payload = HoldsPacket label payload
IsUnanswered port a ForGsmp payload = IsForOthers port a ForGsmp payload

-- *Grants are of labels*, none of which goes on a default channel
abbrev pub SendsByLabels : Controller → Type 0
SendsByLabels c = Every (λ (linked : Linked). Every (λ (grant : Grant). is_label_number grant.label ≡ true) linked.port.grants) c.ports

-- *So it says none*, under the mark of a packet or a control mark
abbrev pub UnansweredFramesSayNone : Type 0
UnansweredFramesSayNone = (port : PortNo) (a : Acted) (taker : Taker) (mark : Mark) (payload : List ℕ) → IsLinkPort port → SendsByLabels a.controller
    → (mark.packet ≡ 0 → 0 < mark.frame) → IsUnanswered port a taker payload → SaysNone port a (frame_holds a taker mark payload)

-- nor does a packet that is sent on, as one that enters
abbrev pub ForwardedPacketsSayNone : Type 0
ForwardedPacketsSayNone = (port : PortNo) (a : Acted) (came : Mark) (packet : List ℕ) → IsLinkPort port → SendsByLabels a.controller → (came.packet ≡ 0 → 0 < came.frame)
    → IsForwarded packet → SaysNone port a (forwards_packet a came packet)

-- *Such are frames for others*, where those of labels hold such packets
abbrev pub FramesForOthersAreUnanswered : Type 0
FramesForOthersAreUnanswered = (port : PortNo) (a : Acted) (taker : Taker) (payload : List ℕ) → IsForOthers port a taker payload
    → ((q : Linked) (label : Label) → taker ≡ ForLabel q label → HoldsPacket label payload) → IsUnanswered port a taker payload

-- as they do that carry a packet of the label's flow which may be in the network
abbrev pub CarriedPacketsAreHeld : Type 0
CarriedPacketsAreHeld = (label : Label) (packet payload : List ℕ) → IsFit packet → Carries label.flow packet payload → HoldsPacket label payload

-- *And messages in peace*, that an end of a link hears of the other while both agree
pub record IsEndAt (a : Acted) (e : EndOfLink) (linked : Linked) : Type 0 where
  pub there : linked_at a.controller e.setup.port ≡ Some linked
  pub setup : linked.setup ≡ e.setup
  pub port : linked.port ≡ e.port

abbrev pub MessagesInPeaceAreUnanswered : Type 0
MessagesInPeaceAreUnanswered = (a : Acted) (q linked : Linked) (one other : EndOfLink) (source : Addr) (message : Message) (rest : List Message)
    → IsEndAt a one linked → other.port.adjacency.own.address ≡ source → source.0 < 2 ^ 32 → InRange message → FitsMessage message
    → HearsOn a.controller.desk a.numbers.instances one other message rest
    → IsUnanswered one.setup.port a (ForDefault q) (default_payload (ifmp_packet_of source (ifmp_octets message)))

-- by which nothing is sent at all, and nothing noted
pub record SendsNothing (a b : Acted) : Type 0 where
  pub queue : b.controller.queue ≡ a.controller.queue
  pub notes : b.notes ≡ a.notes

abbrev pub QuietMessagesSendNothing : Type 0
QuietMessagesSendNothing = (a : Acted) (port : PortNo) (linked : Linked) (source : Addr) (message : Message) → linked_at a.controller port ≡ Some linked
    → (hears linked.setup a.controller.desk (begins a linked) source message).actions ≡ []
    → SendsNothing a (at_port a port (λ setup desk w. hears setup desk w source message))

-- *In a run* grants are of labels
abbrev pub SoundControllersSendByLabels : Type 0
SoundControllersSendByLabels = (setups : List Setup) (c : Controller) → IsSound setups c → SendsByLabels c
