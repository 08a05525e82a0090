-- Which frames make a controller ask nothing, and which one request

use Rattle.std.specs.Prelude.{◌≡◌, ◌≢◌, ℕ, ◌≤◌, ◌<◌, ◌^◌, ◌==◌, true, false, List, ◌∷◌, drop, length, None, Some, Result, Ok, Err}
use Rattle.world_model.specs.Words.{InRange, FitsMessage, default_payload, ifmp_packet_of, Addr, Instance, Ack, Peer, Party, Side, End, Mark, FlowId, said, hello_of, control_protocol, protocol_of, source_of, EncapsFault, default_unwrapped, AddBranch, MoveBranch, Redirect, label_channel_of, Standing, Unknown, answered, Head, head_of, at, is_in_range, label_end, control_end, Label, Grant, Idle, grant_label, is_leaving, most_grants, Session, begins, has_room, hears, Linked, linked_at, ForGsmp, ForDefault, ForLabel, frame_holds}
use Rattle.world_model.specs.ipv4_packet.Packet.{first_fault}
use Rattle.world_model.specs.ifmp_wire.Fields.{decoded as ifmp_decoded}
use Rattle.world_model.specs.ifmp_wire.declared.message.Message.{Message as IfmpMessage}
use Rattle.world_model.specs.ifmp_wire.declared.message.Message.TheVariants.{Adjacency}
use Rattle.world_model.specs.gsmp_wire.declared.fault.Fault.{Fault}
use Rattle.world_model.specs.gsmp_wire.declared.message.Message.{Message}
use Rattle.world_model.specs.gsmp_wire.Fields.{decoded}
use Rattle.world_model.specs.Controller.{Acted}
use Rattle.world_model.specs.Cells.{Taker}
use Rattle.world_model.specs.ifmp_wire.Message.{octets_of as ifmp_octets}
use Rattle.live_model.specs.Met.{HaveMet}
use Rattle.law_live_lasting.specs.law_port_facts.ordered_lists.Ordered.{Every}
use Rattle.law_live_labels.specs.Law.{IsWorking, IsWired, IsTaken}
use Rattle.law_live_greetings.specs.Law.{WaitsForNone}
use Rattle.law_live_lasting.specs.law_live_links.Law.{EndOfLink, AreAgreed}
use Rattle.law_live_lasting.specs.law_live_worlds.Law.{end_of}
use Rattle.law_live_lasting.specs.law_live_others.Law.{IsUnheard}
use Rattle.law_live_numbers.specs.Law.{work_at}
use Rattle.law_live_lasting.specs.law_live_control.Calm.{ack, HasLinks}
use Rattle.law_live_bound.specs.Law.{HoldsPacket}
use Rattle.law_live_mirrors.specs.Mirrors.{is_labels, label_leads}
use Rattle.law_live_mirrors.specs.Asking.{WorksPlainly, IsFree, MayWire, Takes}
use Rattle.law_live_mirrors.specs.Answers.{IsDone}
use Rattle.law_live_asking.specs.Law.{AsksNone, AsksFew}

-- *What the switch says* asks nothing where it is its ACK; answers nothing that stands; or is the success of the branch of a label that is
-- being wired, of a grant that isn't used yet, or of a join
pub data IsPlainMessage (a : Acted) : Message → Type 0 where
  greets : (switch : Side Party) → HaveMet a.controller.adjacency switch → IsPlainMessage a (ack switch.own a.controller.adjacency.own)
  answers_none : (message : Message) (head : Head) → head_of message ≡ Some head → answered a.controller.desk message ≡ Unknown → IsPlainMessage a message
  offers : (message : Message) (s : Standing) (linked : Linked) (session : Session) (label : Label) → IsDone a message s
      → linked_at a.controller linked.setup.port ≡ Some linked → IsWired linked.setup (begins a linked) session label → label.join ≡ None
      → s.request ≡ AddBranch (label_end linked.setup.port label.number) (control_end linked.setup.port label.number) → IsPlainMessage a message
  starts : (message : Message) (s : Standing) (linked : Linked) (session : Session) (grant : Grant) → IsDone a message s
      → linked_at a.controller linked.setup.port ≡ Some linked → IsWorking linked.setup (begins a linked) session
      → is_in_range linked.setup grant.label ≡ true → at grant_label grant.label linked.port.grants ≡ Some grant → grant.state ≡ Idle
      → s.request ≡ AddBranch (control_end linked.setup.port grant.label) (label_end linked.setup.port grant.label) → IsPlainMessage a message
  joins : (message : Message) (s : Standing) (input from output : End) → IsDone a message s → is_labels input ≡ true
      → label_leads a.controller.ports input ≡ Some output → output.port.0 ≢ 0 → s.request ≡ MoveBranch input from output
      → IsPlainMessage a message

abbrev pub IsPlainTold : Acted → Result Message Fault → Type 0
IsPlainTold a (Err fault) = Unit {0}
IsPlainTold a (Ok message) = IsPlainMessage a message

abbrev pub PlainMessagesAskNone : Type 0
PlainMessagesAskNone = (a : Acted) (r : Result Message Fault) (mark : Mark) (payload : List ℕ) → HasLinks a.controller → decoded payload ≡ r
    → IsPlainTold a r → AsksNone a.controller (frame_holds a ForGsmp mark payload).controller

-- *A frame of a default channel* asks nothing where its port works plainly at it, and one of a label's channel never does
abbrev pub PlainFramesAskNone : Type 0
PlainFramesAskNone = (a : Acted) (q linked : Linked) (mark : Mark) (payload : List ℕ) → HasLinks a.controller → linked_at a.controller q.setup.port ≡ Some linked
    → WorksPlainly a linked (work_at a linked (default_unwrapped payload)) → AsksNone a.controller (frame_holds a (ForDefault q) mark payload).controller

abbrev pub LabelFramesAskNone : Type 0
LabelFramesAskNone = (a : Acted) (q : Linked) (label : Label) (mark : Mark) (payload : List ℕ) → HasLinks a.controller
    → AsksNone a.controller (frame_holds a (ForLabel q label) mark payload).controller

-- *It works plainly* at what it doesn't hear: what is refused, and a packet that is only counted
abbrev pub UnheardFramesWorkPlainly : Type 0
UnheardFramesWorkPlainly = (a : Acted) (linked : Linked) (r : Result (List ℕ) EncapsFault) → linked_at a.controller linked.setup.port ≡ Some linked
    → IsUnheard a linked.setup.port r → WorksPlainly a linked (work_at a linked r)

-- at the ACK of its peer, where both have met and no label that was acknowledged waits for its number
abbrev pub AcksWorkPlainly : Type 0
AcksWorkPlainly = (a : Acted) (linked : Linked) (s : Session) (other : Side Peer) (next : ℕ) → linked_at a.controller linked.setup.port ≡ Some linked
    → linked.port.session ≡ Some s → HaveMet linked.port.adjacency other → Every (λ (label : Label). WaitsForNone label.state) s.labels
    → WorksPlainly a linked (hears linked.setup a.controller.desk (begins a linked) other.own.address (Adjacency (hello_of next (said other Ack))))

-- and at the REDIRECT of a label that it has a grant of
abbrev pub RefreshesWorkPlainly : Type 0
RefreshesWorkPlainly = (a : Acted) (linked : Linked) (s : Session) (source : Addr) (sender peer : Instance) (number lifetime : ℕ) (grant : Grant)
    → linked_at a.controller linked.setup.port ≡ Some linked → IsTaken linked.setup (begins a linked) s source sender peer number grant.label
    → at grant_label grant.label linked.port.grants ≡ Some grant → is_leaving grant.state ≡ false
    → WorksPlainly a linked (hears linked.setup a.controller.desk (begins a linked) source (Redirect sender peer number lifetime (label_channel_of grant.label) grant.flow))

-- *A message of IFMP* in a frame of a default channel
pub record HoldsMessage (payload : List ℕ) (source : Addr) (message : IfmpMessage) : Type 0 where
  pub packet : List ℕ
  pub is : default_unwrapped payload ≡ Ok packet
  pub whole : first_fault packet ≡ None
  pub of_protocol : (protocol_of packet == control_protocol) ≡ true
  pub read : ifmp_decoded (drop 20 packet) ≡ Ok message
  pub from : source_of packet ≡ source

-- *A REDIRECT of a new label*: its grant is made, where there is room; nothing stands on its input
pub record MakesGrant (a : Acted) (linked : Linked) (payload : List ℕ) : Type 0 where
  pub session : Session
  pub source : Addr
  pub sender : Instance
  pub peer : Instance
  pub number : ℕ
  pub label : ℕ
  pub lifetime : ℕ
  pub flow : FlowId
  pub holds : HoldsMessage payload source (Redirect sender peer number lifetime (label_channel_of label) flow)
  pub takes : Takes a linked session source sender peer number label
  pub spare : at grant_label label linked.port.grants ≡ None
  pub few : length linked.port.grants < most_grants
  pub room : has_room a.controller.desk (begins a linked) ≡ true
  pub free : IsFree a.controller.desk (control_end linked.setup.port label)

-- *What a port may do* at a frame of its default channel: work plainly; count a packet, for which a label may be wired; make a grant
pub data MayWork (a : Acted) (linked : Linked) (payload : List ℕ) : Type 0 where
  plainly : WorksPlainly a linked (work_at a linked (default_unwrapped payload)) → MayWork a linked payload
  counts : (packet : List ℕ) → HoldsPacket payload packet → MayWire a linked → MayWork a linked payload
  grants : MakesGrant a linked payload → MayWork a linked payload

-- *So a frame may come*, by who takes it
abbrev pub MayCome : Acted → Taker → (payload : List ℕ) → Type 0
MayCome a ForGsmp payload = IsPlainTold a (decoded payload)
MayCome a (ForDefault q) payload = (linked : Linked) → linked_at a.controller q.setup.port ≡ Some linked → MayWork a linked payload
MayCome a (ForLabel q label) payload = Unit {0}

-- *It makes the controller ask* at most one request, where no loss is entered
abbrev pub FramesAskFew : Type 0
FramesAskFew = (a : Acted) (taker : Taker) (mark : Mark) (payload : List ℕ) → HasLinks a.controller → MayCome a taker payload
    → length (frame_holds a taker mark payload).notes.entries ≤ length a.notes.entries → AsksFew a.controller (frame_holds a taker mark payload)

-- *A message in peace* may come: the first that is on its way from the other end of the port's link, while both agree
abbrev pub MessagesInPeaceMayCome : Type 0
MessagesInPeaceMayCome = (a : Acted) (linked : Linked) (said rest : List IfmpMessage) (other : EndOfLink) (message : IfmpMessage)
    → linked_at a.controller linked.setup.port ≡ Some linked → AreAgreed (end_of linked said) other → other.said ≡ message ∷ rest
    → other.port.adjacency.own.address.0 < 2 ^ 32 → InRange message → FitsMessage message
    → MayWork a linked (default_payload (ifmp_packet_of other.port.adjacency.own.address (ifmp_octets message)))
