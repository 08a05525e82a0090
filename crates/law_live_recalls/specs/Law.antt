-- A label on its way back between the two ends of a link, up to where both agree at rest without it

use Rattle.std.specs.Prelude.{◌≡◌, ℕ, ◌+◌, ◌≤◌, ◌<◌, Bool, false, true, List, [], ◌∷◌, length, None, Some}
use Rattle.std.specs.Option.{option_map}
use Rattle.live_model.specs.world_model.Words.{Ack, DeleteTree, End, Free, hello_of, label_channel_of, label_number_of, at, without, Desk, on_input, Setup, label_end, Label, LabelState, Recalled, Wired, label_number, Grant, ByInput, Leaving, grant_label, Session, Work, label_at, known_of, has_room, last_number, label_range, narrowed, nudges, reclaim, reclaim_ack, one_idler, ticks_label}
use Rattle.live_model.specs.world_model.gsmp_wire.declared.request.Request.{Request}
use Rattle.live_model.specs.world_model.ifmp_wire.declared.message.Message.{Message}
use Rattle.live_model.specs.world_model.ifmp_wire.declared.message.Message.TheVariants.{Adjacency}
use Rattle.live_model.specs.world_model.port_model.declared.action.Action.{Action}
use Rattle.live_model.specs.world_model.port_model.declared.action.Action.TheVariants.{Ask, CutChain, Note, Say, TakeBack}
use Rattle.live_model.specs.world_model.port_model.Answers.{done}
use Rattle.live_model.specs.world_model.port_model.Grants.{lent_input}
use Rattle.live_model.specs.world_model.port_model.Joins.{given_back}
use Rattle.live_model.specs.world_model.port_model.Setup.{is_between}
use Rattle.law_port_facts.specs.ordered_lists.Ordered.{Every}
use Rattle.law_live_links.specs.Law.{EndOfLink, number_of, expected_of, AreAtRest, working, left_by, hearing, heard_by}

-- *An end as it will be* once it has heard what the other end said
abbrev pub once_heard : (other e : EndOfLink) → EndOfLink
once_heard other e = record {
  setup = e.setup;
  port = record e.port {
    adjacency = record e.port.adjacency { silence = 0 };
    session = option_map (λ (s : Session). record s { expected = number_of other.port }) e.port.session;
  };
  said = [];
}

-- *Without a label* of this number: its giver has it spare, its taker has no grant of it
abbrev pub giver_without : (number : ℕ) → EndOfLink → EndOfLink
giver_without number e = record e {
  port = record e.port { session = option_map (λ (s : Session). record s { labels = without label_number number s.labels }) e.port.session };
}

abbrev pub taker_without : (number : ℕ) → EndOfLink → EndOfLink
taker_without number e = record e { port = record e.port { grants = without grant_label number e.port.grants } }

-- *A label is returning*: it is held yet; of what is on its way each message takes a number; and once that is heard, the two ends agree
-- at rest without the label
pub record IsReturning (giver taker : EndOfLink) (label : Label) : Type 0 where
  pub held : label_at giver.port label.number ≡ Some label
  pub known : label_number_of (label_channel_of label.number) ≡ Some label.number
  pub there : expected_of taker.port + length giver.said ≡ number_of giver.port
  pub back : expected_of giver.port + length taker.said ≡ number_of taker.port
  pub beside : AreAtRest (once_heard taker (giver_without label.number giver)) (once_heard giver (taker_without label.number taker))

-- what both say of it
abbrev pub reclaim_of : (giver taker : EndOfLink) → Label → (number : ℕ) → Message
reclaim_of giver taker label number = reclaim label giver.port.adjacency.own.instance taker.port.adjacency.own.instance number

abbrev pub ack_of : (giver taker : EndOfLink) → Label → (number : ℕ) → Message
ack_of giver taker label number =
    reclaim_ack (label_channel_of label.number) label.flow taker.port.adjacency.own.instance giver.port.adjacency.own.instance number

-- *It is recalled*: its RECLAIM is on its way to the other end, which has a grant of it
pub record IsRecalled (giver taker : EndOfLink) (label : Label) : Type 0 where
  pub returning : IsReturning giver taker label
  pub state : label.state ≡ Recalled (expected_of taker.port) false
  pub number_left : expected_of taker.port < last_number
  pub said : giver.said ≡ reclaim_of giver taker label (expected_of taker.port) ∷ []
  pub silent : taker.said ≡ []
  pub grant : Grant
  pub granted : at grant_label label.number taker.port.grants ≡ Some grant
  pub same_flow : grant.flow ≡ label.flow

-- *It is owed*: the other end has heard that; its grant was lent to an input, whose join is being taken back
pub record IsOwed (giver taker : EndOfLink) (label : Label) (last : ℕ) : Type 0 where
  pub returning : IsReturning giver taker label
  pub state : label.state ≡ Recalled last false
  pub passed : last < number_of giver.port
  pub heard : giver.said ≡ []
  pub silent : taker.said ≡ []
  pub grant : Grant
  pub granted : at grant_label label.number taker.port.grants ≡ Some grant
  pub same_flow : grant.flow ≡ label.flow
  pub input : End
  pub leaving : grant.state ≡ Leaving input true

-- *It is given back*: the other end has no grant of it any more
pub record IsGivenBack (giver taker : EndOfLink) (label : Label) (state : LabelState) : Type 0 where
  pub returning : IsReturning giver taker label
  pub state_is : label.state ≡ state
  pub ungranted : at grant_label label.number taker.port.grants ≡ None
  pub heard : giver.said ≡ []

-- its RECLAIM ACK is on its way
pub record IsAnswered (giver taker : EndOfLink) (label : Label) (last : ℕ) : Type 0 where
  pub given_back : IsGivenBack giver taker label (Recalled last false)
  pub passed : last < number_of giver.port
  pub number_left : expected_of giver.port < last_number
  pub said : taker.said ≡ ack_of giver taker label (expected_of giver.port) ∷ []

-- that was heard: the label waits for an ACK of the other end that names a number above that of the RECLAIM; and then it is quit
pub record IsAcknowledged (giver taker : EndOfLink) (label : Label) (last : ℕ) : Type 0 where
  pub given_back : IsGivenBack giver taker label (Recalled last true)
  pub passed : last < number_of giver.port
  pub silent : taker.said ≡ []

pub record IsQuit (giver taker : EndOfLink) (label : Label) : Type 0 where
  pub given_back : IsGivenBack giver taker label Wired
  pub silent : taker.said ≡ []

-- *An end is left so*: its port wasn't reset, acted so, and what it said is on its way
pub record IsLeft (e : EndOfLink) (w : Work) (actions : List Action) (IsSo : EndOfLink → Type 0) : Type 0 where
  pub going : w.halted ≡ false
  pub acts : w.actions ≡ actions
  pub is_so : IsSo (left_by e w)

-- *From rest* a tick comes to a label that isn't joined, and that the policy doesn't keep: it is recalled
pub record IsUnused (giver : EndOfLink) (label : Label) : Type 0 where
  pub held : label_at giver.port label.number ≡ Some label
  pub unjoined : label.join ≡ None
  pub not_kept : giver.setup.policy.keeps label.flow (one_idler label).idle ≡ false
  pub number_left : number_of giver.port < last_number

abbrev pub recalled : EndOfLink → Label → Label
recalled giver label = record (one_idler label) { state = Recalled (number_of giver.port) false }

abbrev pub UnusedAreRecalled : Type 0
UnusedAreRecalled = (desk : Desk) (instances : ℕ) (giver taker : EndOfLink) (label : Label) → AreAtRest giver taker → IsUnused giver label
    → IsLeft giver (ticks_label giver.setup desk (working instances giver) label.number) (Say (reclaim_of giver taker label (number_of giver.port)) ∷ [])
    (λ e. IsRecalled e taker (recalled giver label))

-- *The taker hears the RECLAIM*: a grant that isn't lent ends, and it says RECLAIM ACK
abbrev pub RecalledAreAnswered : Type 0
RecalledAreAnswered = (desk : Desk) (instances : ℕ) (giver taker : EndOfLink) (label : Label) (r : IsRecalled giver taker label) → lent_input r.grant.state ≡ None
    → number_of taker.port < last_number
    → IsLeft taker (hearing desk instances giver.port.adjacency.own.address taker (reclaim_of giver taker label (expected_of taker.port)))
    (Say (ack_of giver taker label (number_of taker.port)) ∷ [])
    (λ e. IsAnswered (record giver { said = [] }) e label (expected_of taker.port))

-- for one that is lent the join is taken back first; and once its input is released, it ends, and RECLAIM ACK is said
abbrev pub RecalledAreOwed : Type 0
RecalledAreOwed = (desk : Desk) (instances : ℕ) (giver taker : EndOfLink) (label : Label) (r : IsRecalled giver taker label) (input : End) → r.grant.state ≡ ByInput input
    → IsLeft taker (hearing desk instances giver.port.adjacency.own.address taker (reclaim_of giver taker label (expected_of taker.port)))
    (TakeBack input (label_end taker.setup.port label.number) ∷ [])
    (λ e. IsOwed (record giver { said = [] }) e label (expected_of taker.port))

abbrev pub OwedAreAnswered : Type 0
OwedAreAnswered = (instances : ℕ) (giver taker : EndOfLink) (label : Label) (last : ℕ) (o : IsOwed giver taker label last) → number_of taker.port < last_number
    → IsLeft taker (given_back (working instances taker) o.grant) (Say (ack_of giver taker label (number_of taker.port)) ∷ []) (λ e. IsAnswered giver e label last)

-- till then each tick says the RECLAIM again, to which the taker says nothing
abbrev pub OwedAreToldAgain : Type 0
OwedAreToldAgain = (desk : Desk) (instances : ℕ) (giver taker : EndOfLink) (label : Label) (last : ℕ) → IsOwed giver taker label last → number_of giver.port < last_number
    → IsLeft giver (ticks_label giver.setup desk (working instances giver) label.number) (Say (reclaim_of giver taker label (number_of giver.port)) ∷ [])
    (λ e. IsRecalled e taker (record label { state = Recalled (number_of giver.port) false }))

abbrev pub LeavingStayOwed : Type 0
LeavingStayOwed = (desk : Desk) (instances : ℕ) (giver taker : EndOfLink) (label : Label) (r : IsRecalled giver taker label) (input : End) (owed : Bool)
    → r.grant.state ≡ Leaving input owed
    → IsLeft taker (hearing desk instances giver.port.adjacency.own.address taker (reclaim_of giver taker label (expected_of taker.port))) []
    (λ e. IsOwed (record giver { said = [] }) e label (expected_of taker.port))

-- meanwhile either end may hear ACKs of the other, whatever number they name
abbrev pub ack_from : (from to : EndOfLink) → (next : ℕ) → Message
ack_from from to next = Adjacency (hello_of next (record { kind = Ack; sender = from.port.adjacency.own; receiver = Some to.port.adjacency.own }))

pub record StaysOwed (desk : Desk) (instances : ℕ) (giver taker : EndOfLink) (label : Label) (last next : ℕ) : Type 0 where
  pub by_giver : IsLeft giver (hearing desk instances taker.port.adjacency.own.address giver (ack_from taker giver next)) [] (λ e. IsOwed e taker label last)
  pub by_taker : IsLeft taker (hearing desk instances giver.port.adjacency.own.address taker (ack_from giver taker next)) [] (λ e. IsOwed giver e label last)

abbrev pub OwedAreGreeted : Type 0
OwedAreGreeted = (desk : Desk) (instances : ℕ) (giver taker : EndOfLink) (label : Label) (last next : ℕ) → IsOwed giver taker label last
    → StaysOwed desk instances giver taker label last next

-- *The giver hears the RECLAIM ACK*, and keeps that, where the RECLAIM isn't known to be passed
abbrev pub AnsweredAreKept : Type 0
AnsweredAreKept = (desk : Desk) (instances : ℕ) (giver taker : EndOfLink) (label : Label) (last : ℕ) → IsAnswered giver taker label last → known_of giver.port ≤ last
    → IsLeft giver (hearing desk instances taker.port.adjacency.own.address giver (ack_of giver taker label (expected_of giver.port))) []
    (λ e. IsAcknowledged e (record taker { said = [] }) (record label { state = Recalled last true }) last)

-- where it is, and there is room for a request, the label is quit
abbrev pub label_tree : Setup → (number : ℕ) → Request
label_tree setup number = DeleteTree (label_end setup.port number)

pub record HasRoomToQuit (desk : Desk) (instances : ℕ) (giver : EndOfLink) (number : ℕ) : Type 0 where
  pub unasked : on_input desk (label_end giver.setup.port number) ≡ false
  pub room : has_room desk (working instances giver) ≡ true

abbrev pub AnsweredAreQuit : Type 0
AnsweredAreQuit = (desk : Desk) (instances : ℕ) (giver taker : EndOfLink) (label : Label) (last : ℕ) → IsAnswered giver taker label last → last < known_of giver.port
    → HasRoomToQuit desk instances giver label.number
    → IsLeft giver (hearing desk instances taker.port.adjacency.own.address giver (ack_of giver taker label (expected_of giver.port)))
    (CutChain label.number ∷ Ask (label_tree giver.setup label.number) false ∷ [])
    (λ e. IsQuit e (record taker { said = [] }) (record label { state = Wired }))

-- *A tick* of the giver whose label was kept so says LABEL RANGE, for its number alone
abbrev pub range_of : (giver taker : EndOfLink) → (number : ℕ) → Message
range_of giver taker number = label_range giver.setup giver.port.adjacency.own.instance taker.port.adjacency.own.instance number

pub record IsNudged (giver taker : EndOfLink) (label : Label) (last : ℕ) : Type 0 where
  pub returning : IsReturning giver taker label
  pub state : label.state ≡ Recalled last true
  pub ungranted : at grant_label label.number taker.port.grants ≡ None
  pub passed : last < number_of giver.port
  pub number_left : expected_of taker.port < last_number
  pub said : giver.said ≡ range_of giver taker (expected_of taker.port) ∷ []
  pub silent : taker.said ≡ []

abbrev pub AcknowledgedAreNudged : Type 0
AcknowledgedAreNudged = (instances : ℕ) (giver taker : EndOfLink) (label : Label) (last : ℕ) → IsAcknowledged giver taker label last → known_of giver.port ≤ last
    → number_of giver.port < last_number
    → IsLeft giver (nudges giver.setup (working instances giver)) (Say (range_of giver taker (number_of giver.port)) ∷ []) (λ e. IsNudged e taker label last)

-- the taker hears it; none of the labels that it gives itself lies outside
abbrev pub narrowed_by : Setup → Session → Session
narrowed_by setup s = narrowed (label_channel_of setup.least) (label_channel_of setup.greatest) s

abbrev pub AreInside : (giver taker : EndOfLink) → Type 0
AreInside giver taker = (s : Session) → taker.port.session ≡ Some s
    → Every (λ (label : Label). is_between (narrowed_by giver.setup s).least (narrowed_by giver.setup s).greatest (label_channel_of label.number) ≡ true) s.labels

abbrev pub NudgedAreAcknowledged : Type 0
NudgedAreAcknowledged = (desk : Desk) (instances : ℕ) (giver taker : EndOfLink) (label : Label) (last : ℕ) → IsNudged giver taker label last → AreInside giver taker
    → IsLeft taker (hearing desk instances giver.port.adjacency.own.address taker (range_of giver taker (expected_of taker.port))) []
    (λ e. IsAcknowledged (record giver { said = [] }) e label last)

-- *The giver hears an ACK* of the taker that names a number above that of the RECLAIM: the label is quit, if it was kept till then
abbrev pub AcknowledgedAreQuit : Type 0
AcknowledgedAreQuit = (desk : Desk) (instances : ℕ) (giver taker : EndOfLink) (label : Label) (last next : ℕ) → IsAcknowledged giver taker label last → last < next
    → HasRoomToQuit desk instances giver label.number
    → IsLeft giver (hearing desk instances taker.port.adjacency.own.address giver (ack_from taker giver next))
    (CutChain label.number ∷ Ask (label_tree giver.setup label.number) false ∷ [])
    (λ e. IsQuit e taker (record label { state = Wired }))

-- *Its branch is deleted*, where each end has just heard the other: both agree at rest without the label
pub record AreAtRestWithout (giver taker : EndOfLink) (number : ℕ) : Type 0 where
  pub at_rest : AreAtRest giver taker
  pub spare : label_at giver.port number ≡ None
  pub ungranted : at grant_label number taker.port.grants ≡ None

abbrev pub QuitAreFreed : Type 0
QuitAreFreed = (instances : ℕ) (giver taker : EndOfLink) (label : Label) → IsQuit giver taker label → giver.port.adjacency.silence ≡ 0 → taker.port.adjacency.silence ≡ 0
    → IsLeft giver (done giver.setup (working instances giver) (label_tree giver.setup label.number)) (Note (Free giver.setup.node giver.setup.port label.number) ∷ [])
    (λ e. AreAtRestWithout e taker label.number)

-- *The whole way*, from rest to rest: the grant isn't lent, numbers are left, no number is known that isn't told yet, and there is room
-- for a request
pub record MayReturn (later : Desk) (instances : ℕ) (giver taker : EndOfLink) (label : Label) : Type 0 where
  pub unused : IsUnused giver label
  pub not_lent : (grant : Grant) → at grant_label label.number taker.port.grants ≡ Some grant → lent_input grant.state ≡ None
  pub number_left : number_of taker.port < last_number
  pub known : known_of giver.port ≤ number_of giver.port
  pub room : HasRoomToQuit later instances giver label.number

abbrev pub told : Desk → (instances : ℕ) → EndOfLink → Label → EndOfLink
told desk instances giver label = left_by giver (ticks_label giver.setup desk (working instances giver) label.number)

-- the giver hears this answer of the taker, and then its ACK, as the taker is now; and the branch of the label is deleted
abbrev pub acknowledged : Desk → (instances : ℕ) → (giver taker : EndOfLink) → (answer : Message) → EndOfLink
acknowledged desk instances giver taker answer = heard_by desk instances taker.port.adjacency.own.address (record giver { said = [] }) answer

abbrev pub quit : (later : Desk) → (instances : ℕ) → (giver taker : EndOfLink) → EndOfLink
quit later instances giver taker = heard_by later instances taker.port.adjacency.own.address giver (ack_from taker giver (expected_of taker.port))

abbrev pub freed : (instances : ℕ) → EndOfLink → (number : ℕ) → EndOfLink
freed instances giver number = left_by giver (done giver.setup (working instances giver) (label_tree giver.setup number))

-- one thing was said, which the taker hears; it says one thing too; and in the end both agree at rest without the label
pub record ComesBack (desk far_desk later : Desk) (instances far_instances : ℕ) (giver taker : EndOfLink) (number : ℕ) : Type 0 where
  pub message : Message
  pub said : giver.said ≡ message ∷ []
  pub answer : Message
  pub given_back : (heard_by far_desk far_instances giver.port.adjacency.own.address taker message).said ≡ answer ∷ []
  pub rests : (let far : EndOfLink = heard_by far_desk far_instances giver.port.adjacency.own.address taker message
      in AreAtRestWithout (freed instances (quit later instances (acknowledged desk instances giver far answer) far) number) (record far { said = [] }) number)

abbrev pub LabelsReturn : Type 0
LabelsReturn = (desk far_desk later : Desk) (instances far_instances : ℕ) (giver taker : EndOfLink) (label : Label) → AreAtRest giver taker
    → MayReturn later instances giver taker label → ComesBack desk far_desk later instances far_instances (told desk instances giver label) taker label.number
