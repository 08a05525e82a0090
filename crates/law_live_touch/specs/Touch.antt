-- Two ends of a link in touch, while labels are bound between them and come back

use Rattle.std.specs.Prelude.{◌≡◌, ℕ, ◌+◌, ◌≤◌, ◌<◌, ◌⊎◌, Bool, false, true, List, [], ◌∷◌, Option, None, Some}
use Rattle.live_model.specs.world_model.Words.{FlowId, LabelRange, Peer, Reclaim, ReclaimAck, Redirect, Timers, label_channel_of, label_number_of, at, Setup, is_in_range, Label, LabelState, Wiring, Offered, Recalled, Wired, labels_of, Grant, GrantState, Leaving, grant_label, is_leaving, Session, label_at, known_of, last_number}
use Rattle.live_model.specs.world_model.ifmp_wire.declared.message.Message.{Message}
use Rattle.live_model.specs.world_model.ifmp_wire.declared.message.Message.TheVariants.{Adjacency}
use Rattle.live_model.specs.world_model.port_model.Reclaiming.{is_outside}
use Rattle.live_model.specs.Met.{HaveMet}
use Rattle.law_port_facts.specs.ordered_lists.Ordered.{Every}
use Rattle.law_live_links.specs.Law.{EndOfLink, number_of, expected_of, IsGreeting, IsToldAnew, IsEnd}

-- *What is on its way* from one end to the other: ACKs to the other end as it is; and under the numbers from the one expected to the
-- one that is next, REDIRECT, RECLAIM and RECLAIM ACK of labels, and LABEL RANGE
pub data IsNumbered (from to : Peer) (setup : Setup) (number : ℕ) : Message → Type 0 where
  a_redirect : (label : ℕ) (flow : FlowId) → label_number_of (label_channel_of label) ≡ Some label
      → IsNumbered from to setup number (Redirect from.instance to.instance number setup.timers.lifetime (label_channel_of label) flow)
  a_reclaim : (label : ℕ) (flow : FlowId) → label_number_of (label_channel_of label) ≡ Some label
      → IsNumbered from to setup number (Reclaim from.instance to.instance number (label_channel_of label) flow)
  an_answer : (label : ℕ) (flow : FlowId) → label_number_of (label_channel_of label) ≡ Some label
      → IsNumbered from to setup number (ReclaimAck from.instance to.instance number (label_channel_of label) flow)
  a_range : IsNumbered from to setup number (LabelRange from.instance to.instance number (label_channel_of setup.least) (label_channel_of setup.greatest))

abbrev pub LeadFrom : (from to : Peer) → Setup → (number next : ℕ) → List Message → Type 0
LeadFrom from to setup number next [] = number ≡ next
LeadFrom from to setup number next (message ∷ said) =
    (IsGreeting from to message × LeadFrom from to setup number next said)
    ⊎ (IsNumbered from to setup number message × ((number < last_number) × LeadFrom from to setup (number + 1) next said))

-- *Of a label* a message is a RECLAIM under this number, or a RECLAIM ACK
abbrev pub IsReclaim : (label number : ℕ) → Message → Type 0
IsReclaim label number (Reclaim sender peer own channel flow) = (label_number_of channel ≡ Some label) × (own ≡ number)
IsReclaim label number message = ⊥

abbrev pub IsAnswer : (label : ℕ) → Message → Type 0
IsAnswer label (ReclaimAck sender peer own channel flow) = label_number_of channel ≡ Some label
IsAnswer label message = ⊥

-- one such is on its way; and no other than one
abbrev pub Comes : (Message → Type 0) → List Message → Type 0
Comes IsSo [] = ⊥
Comes IsSo (message ∷ said) = IsSo message ⊎ Comes IsSo said

abbrev pub ComesOnce : (Message → Type 0) → List Message → Type 0
ComesOnce IsSo [] = ⊥
ComesOnce IsSo (message ∷ said) = (IsSo message × (Comes IsSo said → ⊥)) ⊎ ((IsSo message → ⊥) × ComesOnce IsSo said)

-- *What its giver says of it*: nothing; or REDIRECTs of its flow; or RECLAIMs of its flow, the last one under this number
abbrev pub SaysNothing : (label : ℕ) → Message → Type 0
SaysNothing label (Redirect sender peer own lifetime channel flow) = label_number_of channel ≡ Some label → ⊥
SaysNothing label (Reclaim sender peer own channel flow) = label_number_of channel ≡ Some label → ⊥
SaysNothing label message = Unit {0}

abbrev pub Redirects : (label : ℕ) → (its : FlowId) → Message → Type 0
Redirects label its (Redirect sender peer own lifetime channel flow) = label_number_of channel ≡ Some label → flow ≡ its
Redirects label its (Reclaim sender peer own channel flow) = label_number_of channel ≡ Some label → ⊥
Redirects label its message = Unit {0}

abbrev pub Reclaims : (label : ℕ) → (its : FlowId) → (last : ℕ) → Message → Type 0
Reclaims label its last (Redirect sender peer own lifetime channel flow) = label_number_of channel ≡ Some label → ⊥
Reclaims label its last (Reclaim sender peer own channel flow) = label_number_of channel ≡ Some label → (flow ≡ its) × (own ≤ last)
Reclaims label its last message = Unit {0}

-- *What its taker says of it*: nothing; or RECLAIM ACKs of its flow
abbrev pub AnswersNothing : (label : ℕ) → Message → Type 0
AnswersNothing label (ReclaimAck sender peer own channel flow) = label_number_of channel ≡ Some label → ⊥
AnswersNothing label message = Unit {0}

abbrev pub Answers : (label : ℕ) → (its : FlowId) → Message → Type 0
Answers label its (ReclaimAck sender peer own channel flow) = label_number_of channel ≡ Some label → flow ≡ its
Answers label its message = Unit {0}

-- an ACK names this number at most; and no RECLAIM ACK of the label stands behind one that names a greater
abbrev pub NamesAtMost : (most : ℕ) → Message → Type 0
NamesAtMost most (Adjacency hello) = hello.next ≤ most
NamesAtMost most message = Unit {0}

abbrev pub AnswersFirst : (label last : ℕ) → List Message → Type 0
AnswersFirst label last [] = Unit {0}
AnswersFirst label last (message ∷ said) = (Comes (IsAnswer label) said → NamesAtMost last message) × AnswersFirst label last said

-- *Between the two ends*, as a label sees it: the taker's grant of it, what either has said that the other has yet to hear, the number
-- that the taker expects, and the one that the giver knows it to expect
pub record Between : Type 0 where
  pub granted : Option Grant
  pub there : List Message
  pub back : List Message
  pub expected : ℕ
  pub known : ℕ

abbrev pub between : (giver taker : EndOfLink) → (label : ℕ) → Between
between giver taker label = record {
  granted = at grant_label label taker.port.grants;
  there = giver.said;
  back = taker.said;
  expected = expected_of taker.port;
  known = known_of giver.port;
}

-- *Nothing is left of it* at the taker, nor on its way
pub record IsGone (label : ℕ) (b : Between) : Type 0 where
  pub ungranted : b.granted ≡ None
  pub there_none : Every (SaysNothing label) b.there
  pub back_none : Every (AnswersNothing label) b.back

-- *It is offered*: the taker has a grant of it, of its flow, with its whole lifetime but for the ticks since it was told, or a REDIRECT
-- is on its way; or the taker has none yet, and a REDIRECT is
pub record IsGranted (timers : Timers) (label : ℕ) (flow : FlowId) (ticks : ℕ) (b : Between) : Type 0 where
  pub grant : Grant
  pub granted : b.granted ≡ Some grant
  pub same_flow : grant.flow ≡ flow
  pub stays : is_leaving grant.state ≡ false
  pub lives : (timers.lifetime ≤ grant.lifetime + ticks) ⊎ IsToldAnew label b.there

pub record IsOffered (timers : Timers) (label : ℕ) (flow : FlowId) (ticks : ℕ) (b : Between) : Type 0 where
  pub young : ticks < timers.refresh
  pub told : Every (Redirects label flow) b.there
  pub back_none : Every (AnswersNothing label) b.back
  pub held_or_new : IsGranted timers label flow ticks b ⊎ ((b.granted ≡ None) × IsToldAnew label b.there)

-- *It is returning*, recalled. The taker has its grant yet, which a RECLAIM on its way will end, or which leaves and owes the RECLAIM ACK
abbrev pub OwesAnswer : GrantState → Type 0
OwesAnswer (Leaving input owed) = owed ≡ true
OwesAnswer state = ⊥

pub record IsEnding (label : ℕ) (flow : FlowId) (last : ℕ) (acknowledged : Bool) (b : Between) : Type 0 where
  pub grant : Grant
  pub granted : b.granted ≡ Some grant
  pub same_flow : grant.flow ≡ flow
  pub unacknowledged : acknowledged ≡ false
  pub back_none : Every (AnswersNothing label) b.back
  pub ends : OwesAnswer grant.state ⊎ ((is_leaving grant.state ≡ false) × Comes (IsReclaim label last) b.there)

-- or that was owed when the RECLAIM was passed, and is on its way now, alone
pub record IsLate (label last : ℕ) (acknowledged : Bool) (b : Between) : Type 0 where
  pub ungranted : b.granted ≡ None
  pub unacknowledged : acknowledged ≡ false
  pub passed : last < b.expected
  pub once : ComesOnce (IsAnswer label) b.back

-- or no grant is left; that the RECLAIM was passed isn't known, nor will an ACK tell so ahead of a RECLAIM ACK; and the label is acknowledged,
-- or RECLAIM ACK is on its way, or RECLAIM is, which will be answered at once
pub record IsAnswered (label last : ℕ) (acknowledged : Bool) (b : Between) : Type 0 where
  pub ungranted : b.granted ≡ None
  pub unpassed : b.known ≤ last
  pub first : AnswersFirst label last b.back
  pub comes : (acknowledged ≡ true) ⊎ (Comes (IsAnswer label) b.back ⊎ Comes (IsReclaim label last) b.there)

pub record IsReturning (label : ℕ) (flow : FlowId) (last : ℕ) (acknowledged : Bool) (b : Between) : Type 0 where
  pub told : Every (Reclaims label flow last) b.there
  pub answers : Every (Answers label flow) b.back
  pub passed : (last < b.expected) ⊎ Comes (IsReclaim label last) b.there
  pub stands : IsEnding label flow last acknowledged b ⊎ (IsLate label last acknowledged b ⊎ IsAnswered label last acknowledged b)

-- *Each label* of the giver: spare; new, as its branch is being made; offered; returning; or quit, as its branch is being deleted
abbrev pub IsInState : Timers → (label : ℕ) → FlowId → (ticks : ℕ) → Between → LabelState → Type 0
IsInState timers label flow ticks b Wiring = (ticks < timers.refresh) × IsGone label b
IsInState timers label flow ticks b Offered = IsOffered timers label flow ticks b
IsInState timers label flow ticks b (Recalled last acknowledged) = IsReturning label flow last acknowledged b
IsInState timers label flow ticks b Wired = IsGone label b

abbrev pub Stands : Timers → (label : ℕ) → Between → Option Label → Type 0
Stands timers label b None = IsGone label b
Stands timers label b (Some held) = IsInState timers label held.flow held.ticks b held.state

-- it is in the range of the taker's port, and in that to which the giver's session was narrowed
pub record IsInRanges (taker : Setup) (session : Option Session) (label : Label) : Type 0 where
  pub in_range : is_in_range taker label.number ≡ true
  pub inside : is_outside session label.number ≡ false

-- *One way*, of the labels that one end gives and the other takes: what was said is so numbered; the ACKs back name the number expected at
-- most, and so does what the giver knows; and each label is in these ranges, and stands so
pub record TouchOneWay (giver taker : EndOfLink) : Type 0 where
  pub numbers : LeadFrom giver.port.adjacency.own taker.port.adjacency.own giver.setup (expected_of taker.port) (number_of giver.port) giver.said
  pub named : Every (NamesAtMost (expected_of taker.port)) taker.said
  pub known : known_of giver.port ≤ expected_of taker.port
  pub ranges : Every (IsInRanges taker.setup giver.port.session) (labels_of giver.port)
  pub labels : (label : ℕ) → Stands giver.setup.timers label (between giver taker label) (label_at giver.port label)

-- *They are in touch*, both ways
pub record AreInTouch (one other : EndOfLink) : Type 0 where
  pub met : HaveMet one.port.adjacency other.port.adjacency
  pub one_end : IsEnd one
  pub other_end : IsEnd other
  pub there : TouchOneWay one other
  pub back : TouchOneWay other one
