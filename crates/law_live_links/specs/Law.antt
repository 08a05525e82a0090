-- The two ends of a link agree on the labels between them, and do so again behind each beat

use Rattle.std.specs.Prelude.{◌≡◌, ◌≢◌, ℕ, ◌+◌, ◌≤◌, ◌<◌, ◌==◌, false, true, Bool, not, List, [], ◌∷◌, ◌++◌, length, drop, filter, fold, Some, is_some, ◌⊎◌, if◌then◌else◌}
use Rattle.std.specs.Option.{option_map_or}
use Rattle.live_model.specs.world_model.Words.{Addr, Ack, Peer, Timers, label_channel_of, label_number_of, at, hello_of, Redirect, Desk, Setup, is_in_range, Label, Offered, label_number, labels_of, Grant, grant_label, is_leaving, Session, Work, last_number, hears}
use Rattle.live_model.specs.world_model.ifmp_wire.declared.message.Message.{Message}
use Rattle.live_model.specs.world_model.ifmp_wire.declared.message.Message.TheVariants.{Adjacency}
use Rattle.live_model.specs.world_model.port_model.Counts.{greatest_count}
use Rattle.live_model.specs.world_model.port_model.Port.{Port}
use Rattle.live_model.specs.world_model.port_model.Ticks.{ticks}
use Rattle.live_model.specs.Met.{HaveMet}
use Rattle.law_port_facts.specs.ordered_lists.Ordered.{Every, InOrder}
use Rattle.law_live_ticks.specs.Law.{is_kept, IsAtPeace}
use Rattle.law_live_nodes.specs.Law.{told_by}

-- *One end of a link*: what stays the same of its port, its port, and what it said that the other end has yet to hear
pub record EndOfLink : Type 0 where
  pub setup : Setup
  pub port : Port
  pub said : List Message

-- the number that the port gives to its next message, and the one that it expects of its peer's
abbrev pub number_of : Port → ℕ
number_of port = option_map_or (λ (s : Session). s.number) port.session 0

abbrev pub expected_of : Port → ℕ
expected_of port = option_map_or (λ (s : Session). s.expected) port.session 0

-- *What is on its way* at peace: an ACK to the other end as it is, or a REDIRECT of a label that is held, under this number
pub record IsGreeting (from to : Peer) (message : Message) : Type 0 where
  pub expected : ℕ
  pub is : message ≡ Adjacency (hello_of expected (record { kind = Ack; sender = from; receiver = Some to }))

pub record IsRefresh (from to : Peer) (timers : Timers) (labels : List Label) (number : ℕ) (message : Message) : Type 0 where
  pub label : Label
  pub held : at label_number label.number labels ≡ Some label
  pub number_left : number < last_number
  pub is : message ≡ Redirect from.instance to.instance number timers.lifetime (label_channel_of label.number) label.flow

-- these are nothing else, and the numbers lead from one to the other
abbrev pub LeadOn : (from to : Peer) → Timers → List Label → (number next : ℕ) → List Message → Type 0
LeadOn from to timers labels number next [] = number ≡ next
LeadOn from to timers labels number next (message ∷ said) =
    (IsGreeting from to message × LeadOn from to timers labels number next said)
    ⊎ (IsRefresh from to timers labels number message × LeadOn from to timers labels (number + 1) next said)

-- a REDIRECT of this label is on its way
abbrev pub IsOf : (number : ℕ) → Message → Type 0
IsOf number (Redirect sender peer own lifetime channel flow) = label_number_of channel ≡ Some number
IsOf number message = ⊥

abbrev pub IsToldAnew : (number : ℕ) → List Message → Type 0
IsToldAnew number [] = ⊥
IsToldAnew number (message ∷ said) = IsOf number message ⊎ IsToldAnew number said

-- *A label is held by both*: it is offered, and was told less than a refresh ago; the other end has a grant of it, of the same
-- flow, which isn't leaving, and has its whole lifetime but for the ticks since, or a REDIRECT is on its way
pub record IsHeld (timers : Timers) (taker : Setup) (grants : List Grant) (said : List Message) (label : Label) : Type 0 where
  pub offered : label.state ≡ Offered
  pub told : label.ticks < timers.refresh
  pub in_range : is_in_range taker label.number ≡ true
  pub grant : Grant
  pub granted : at grant_label label.number grants ≡ Some grant
  pub same_flow : grant.flow ≡ label.flow
  pub stays : is_leaving grant.state ≡ false
  pub lives : (timers.lifetime ≤ grant.lifetime + label.ticks) ⊎ IsToldAnew label.number said

-- *They agree* on the labels that one end gives and the other takes
pub record Agree (giver taker : EndOfLink) : Type 0 where
  pub numbers : LeadOn giver.port.adjacency.own taker.port.adjacency.own giver.setup.timers (labels_of giver.port) (expected_of taker.port) (number_of giver.port) giver.said
  pub labels : Every (IsHeld giver.setup.timers taker.setup taker.port.grants giver.said) (labels_of giver.port)
  pub grants : Every (λ (grant : Grant). is_some (at label_number grant.label (labels_of giver.port)) ≡ true) taker.port.grants
  pub heard : (taker.port.adjacency.silence ≡ 0) ⊎ (giver.said ≢ [])

-- *An end* is a link's, is in session, and refreshes its labels before their lifetime is over
pub record IsEnd (e : EndOfLink) : Type 0 where
  pub of_link : (e.setup.port.0 == 0) ≡ false
  pub in_session : is_some e.port.session ≡ true
  pub labels_apart : InOrder (λ (a b : Label). label_number a < label_number b) (labels_of e.port)
  pub grants_apart : InOrder (λ (a b : Grant). grant_label a ≡ grant_label b → ⊥) e.port.grants
  pub refreshes : 1 ≤ e.setup.timers.refresh
  pub in_time : e.setup.timers.refresh < e.setup.timers.lifetime
  pub counted : e.setup.timers.refresh ≤ greatest_count

-- *Both ways*, between two that have met
pub record AreAgreed (one other : EndOfLink) : Type 0 where
  pub met : HaveMet one.port.adjacency other.port.adjacency
  pub one_end : IsEnd one
  pub other_end : IsEnd other
  pub there : Agree one other
  pub back : Agree other one

-- *At rest* nothing is on its way
pub record AreAtRest (one other : EndOfLink) : Type 0 where
  pub agreed : AreAgreed one other
  pub one_is_heard : one.said ≡ []
  pub other_is_heard : other.said ≡ []

-- so each label of one end is held by the other, and the number of the one is what the other expects
pub record IsAgreedOn (one other : EndOfLink) (label : Label) : Type 0 where
  pub offered : label.state ≡ Offered
  pub grant : Grant
  pub granted : at grant_label label.number other.port.grants ≡ Some grant
  pub same_flow : grant.flow ≡ label.flow
  pub stays : is_leaving grant.state ≡ false
  pub lives : one.setup.timers.lifetime ≤ grant.lifetime + label.ticks

abbrev pub EndsAgreeAtRest : Type 0
EndsAgreeAtRest = (one other : EndOfLink) → AreAtRest one other
    → Every (IsAgreedOn one other) (labels_of one.port) × (expected_of other.port ≡ number_of one.port)

-- *Its port works*, and says what it says
abbrev pub working : (instances : ℕ) → EndOfLink → Work
working instances e = record { port = e.port; actions = []; halted = false; instances = instances }

abbrev pub left_by : EndOfLink → Work → EndOfLink
left_by e w = record e { port = w.port; said = e.said ++ told_by w.actions }

-- *It ticks*: each of its labels is joined or in use, and numbers are left
pub record MayTick (e : EndOfLink) : Type 0 where
  pub kept : Every (λ (label : Label). is_kept e.setup label ≡ true) (labels_of e.port)
  pub numbers : number_of e.port + length (labels_of e.port) ≤ last_number

abbrev pub ticked : Desk → (instances : ℕ) → EndOfLink → EndOfLink
ticked desk instances e = left_by e (ticks e.setup desk (working instances e))

-- then its port is at peace, and so it is known what the tick leaves of it
pub record IsPeaceful (instances : ℕ) (e : EndOfLink) : Type 0 where
  pub session : Session
  pub peace : IsAtPeace e.setup (working instances e) session

abbrev pub EndsAreAtPeace : Type 0
EndsAreAtPeace = (instances : ℕ) (one other : EndOfLink) → AreAtRest one other → MayTick one → IsPeaceful instances one

-- and where both tick, they agree
abbrev pub TicksKeepAgreement : Type 0
TicksKeepAgreement = (desk far_desk : Desk) (instances far_instances : ℕ) (one other : EndOfLink) → AreAtRest one other → MayTick one → MayTick other
    → AreAgreed (ticked desk instances one) (ticked far_desk far_instances other)

-- *It hears* the first that is on its way to it: nothing is asked or answered, and they agree
abbrev pub hearing : Desk → (instances : ℕ) → Addr → EndOfLink → Message → Work
hearing desk instances source e message = hears e.setup desk (working instances e) source message

abbrev pub heard_by : Desk → (instances : ℕ) → Addr → EndOfLink → Message → EndOfLink
heard_by desk instances source e message = left_by e (hearing desk instances source e message)

pub record HearsOn (desk : Desk) (instances : ℕ) (one other : EndOfLink) (message : Message) (rest : List Message) : Type 0 where
  pub quiet : (hearing desk instances other.port.adjacency.own.address one message).actions ≡ []
  pub going : (hearing desk instances other.port.adjacency.own.address one message).halted ≡ false
  pub agreed : AreAgreed (heard_by desk instances other.port.adjacency.own.address one message) (record other { said = rest })

abbrev pub HearingKeepsAgreement : Type 0
HearingKeepsAgreement = (desk : Desk) (instances : ℕ) (one other : EndOfLink) (message : Message) (rest : List Message) → AreAgreed one other
    → other.said ≡ message ∷ rest → HearsOn desk instances one other message rest

-- *They take turns*, in any order: whose turn it is hears the first that is on its way to it, if there is one
pub record Link : Type 0 where
  pub one : EndOfLink
  pub other : EndOfLink

pub record Turn : Type 0 where
  pub is_ones : Bool
  pub desk : Desk
  pub instances : ℕ

abbrev pub hears_first : Turn → Addr → EndOfLink → List Message → EndOfLink
hears_first turn source e [] = e
hears_first turn source e (message ∷ rest) = heard_by turn.desk turn.instances source e message

abbrev pub takes_turn : Link → Turn → Link
takes_turn link turn =
    if turn.is_ones
    then record {
      one = hears_first turn link.other.port.adjacency.own.address link.one link.other.said;
      other = record link.other { said = drop 1 link.other.said };
    }
    else record {
      one = record link.one { said = drop 1 link.one.said };
      other = hears_first turn link.one.port.adjacency.own.address link.other link.one.said;
    }

-- *A beat*: both tick, and then take turns. Each turn takes one from what is on its way, and adds none; once nothing is, both are
-- at rest again
pub record RestsBehind (before : Link) (turns : List Turn) (after : Link) : Type 0 where
  pub one_said : after.one.said ≡ drop (length (filter (λ (turn : Turn). not turn.is_ones) turns)) before.one.said
  pub other_said : after.other.said ≡ drop (length (filter (λ (turn : Turn). turn.is_ones) turns)) before.other.said
  pub agreed : AreAgreed after.one after.other
  pub at_rest : after.one.said ≡ [] → after.other.said ≡ [] → AreAtRest after.one after.other

abbrev pub LinksStayAtRest : Type 0
LinksStayAtRest = (desk far_desk : Desk) (instances far_instances : ℕ) (one other : EndOfLink) (turns : List Turn) → AreAtRest one other → MayTick one → MayTick other
    → (let both : Link = record { one = ticked desk instances one; other = ticked far_desk far_instances other } in RestsBehind both turns (fold takes_turn both turns))
