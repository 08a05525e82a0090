-- Two ends of a link stay in touch, up to what both agree on at rest

use Rattle.std.specs.Prelude.{◌≡◌, ℕ, ◌≤◌, ◌<◌, ◌⊎◌, Bool, false, true, List, [], ◌∷◌, ◌++◌, None, Some}
use Rattle.live_model.specs.world_model.Words.{End, at, Desk, Setup, label_end, Label, Wiring, Offered, Recalled, Wired, labels_of, Grant, grant_label, is_leaving, Work, label_at, known_of, last_number, counts, lent, nudges, ticks_label, used}
use Rattle.live_model.specs.world_model.ifmp_wire.declared.message.Message.{Message}
use Rattle.live_model.specs.world_model.link_model.declared.record.Record.{Record}
use Rattle.live_model.specs.world_model.port_model.declared.action.Action.{Action}
use Rattle.live_model.specs.world_model.port_model.declared.action.Action.TheVariants.{Ask, CutChain, Note, Say, TakeBack}
use Rattle.live_model.specs.world_model.port_model.Answers.{done}
use Rattle.live_model.specs.world_model.port_model.Joins.{given_back, joined, parted}
use Rattle.live_model.specs.world_model.port_model.Ticks.{moves_windows}
use Rattle.live_model.specs.world_model.port_model.Reclaiming.{is_outside}
use Rattle.law_port_facts.specs.ordered_lists.Ordered.{Every}
use Rattle.law_live_links.specs.Law.{EndOfLink, number_of, expected_of, IsToldAnew, AreAtRest, IsAgreedOn, working, left_by, hearing}
use Rattle.law_live_bindings.specs.Law.{TakesInRange, HasRoomFor, label_branch, grant_branch}
use Rattle.law_live_recalls.specs.Law.{label_tree, ack_from}
use Rattle.law_live_touch.specs.Touch.{AreInTouch}

-- *So are two ends that agree at rest*, whose labels are in the ranges of their sessions, and which know no number that isn't said yet
pub record IsSettled (e : EndOfLink) : Type 0 where
  pub inside : Every (λ (label : Label). is_outside e.port.session label.number ≡ false) (labels_of e.port)
  pub known : known_of e.port ≤ number_of e.port

abbrev pub AgreedEndsTouch : Type 0
AgreedEndsTouch = (one other : EndOfLink) → AreAtRest one other → IsSettled one → IsSettled other → AreInTouch one other

-- *At rest*, with nothing on its way, no label being made or deleted, and no grant leaving, both agree: each label is offered and held, or
-- is acknowledged and waits for the ACK that names the number expected; each grant is of one that is offered; and that number is the next
pub record IsStill (e : EndOfLink) : Type 0 where
  pub silent : e.said ≡ []
  pub labels : Every (λ (label : Label). (label.state ≡ Wiring → ⊥) × (label.state ≡ Wired → ⊥)) (labels_of e.port)
  pub grants : Every (λ (grant : Grant). is_leaving grant.state ≡ false) e.port.grants

pub record IsAcknowledged (giver taker : EndOfLink) (label : Label) : Type 0 where
  pub last : ℕ
  pub state : label.state ≡ Recalled last true
  pub ungranted : at grant_label label.number taker.port.grants ≡ None
  pub unpassed : known_of giver.port ≤ last
  pub passed : last < expected_of taker.port

pub record IsOfOffered (giver : EndOfLink) (grant : Grant) : Type 0 where
  pub label : Label
  pub held : label_at giver.port grant.label ≡ Some label
  pub offered : label.state ≡ Offered
  pub same_flow : grant.flow ≡ label.flow

pub record AgreeAtRest (giver taker : EndOfLink) : Type 0 where
  pub labels : Every (λ (label : Label). IsAgreedOn giver taker label ⊎ IsAcknowledged giver taker label) (labels_of giver.port)
  pub grants : Every (IsOfOffered giver) taker.port.grants
  pub numbers : expected_of taker.port ≡ number_of giver.port

abbrev pub AtRestTheyAgree : Type 0
AtRestTheyAgree = (one other : EndOfLink) → AreInTouch one other → IsStill one → IsStill other → AgreeAtRest one other × AgreeAtRest other one

-- so where no label is recalled, and each end has just heard the other, they agree as two ends do that bring no label back
abbrev pub NoneIsRecalled : EndOfLink → Type 0
NoneIsRecalled e = Every (λ (label : Label). (last : ℕ) → label.state ≡ Recalled last true → ⊥) (labels_of e.port)

abbrev pub TouchingEndsRest : Type 0
TouchingEndsRest = (one other : EndOfLink) → AreInTouch one other → IsStill one → IsStill other → NoneIsRecalled one → NoneIsRecalled other
    → one.port.adjacency.silence ≡ 0 → other.port.adjacency.silence ≡ 0 → AreAtRest one other

-- *They stay in touch*, where one is left so: it wasn't reset, it asked nothing but this, and what it said is on its way
pub data MayDo (setup : Setup) : Action → Type 0 where
  says : (message : Message) → MayDo setup (Say message)
  notes : (entry : Record) → MayDo setup (Note entry)
  makes_label : (number : ℕ) → MayDo setup (Ask (label_branch setup number) false)
  makes_grant : (number : ℕ) → MayDo setup (Ask (grant_branch setup number) false)
  deletes : (number : ℕ) (in_place : Bool) → MayDo setup (Ask (label_tree setup number) in_place)
  cuts : (number : ℕ) → MayDo setup (CutChain number)
  takes_back : (input : End) (number : ℕ) → MayDo setup (TakeBack input (label_end setup.port number))

pub record TouchOn (one other : EndOfLink) (w : Work) : Type 0 where
  pub going : w.halted ≡ false
  pub acts : Every (MayDo one.setup) w.actions
  pub touch : AreInTouch (left_by one w) other

-- *The first that is on its way is heard*, whatever it is, where there is room for a new grant, and a number is left for an answer
abbrev pub HearingKeepsTouch : Type 0
HearingKeepsTouch = (desk : Desk) (instances : ℕ) (one other : EndOfLink) (message : Message) (rest : List Message) → AreInTouch one other
    → other.said ≡ message ∷ rest → HasRoomFor desk instances one message → number_of one.port < last_number
    → TouchOn one (record other { said = rest }) (hearing desk instances other.port.adjacency.own.address one message)

-- *A packet is counted*: a label may be taken, if it is one that the other end takes too
abbrev pub CountingKeepsTouch : Type 0
CountingKeepsTouch = (desk : Desk) (instances : ℕ) (one other : EndOfLink) (packet : List ℕ) → AreInTouch one other → TakesInRange one other.setup
    → TouchOn one other (counts one.setup desk (working instances one) packet)

-- *The branch of a label is made*, by which it is offered; and that of a grant
abbrev pub OffersKeepTouch : Type 0
OffersKeepTouch = (instances : ℕ) (one other : EndOfLink) (label : Label) → AreInTouch one other → label_at one.port label.number ≡ Some label
    → label.state ≡ Wiring → number_of one.port < last_number → TouchOn one other (done one.setup (working instances one) (label_branch one.setup label.number))

abbrev pub StartsKeepTouch : Type 0
StartsKeepTouch = (instances : ℕ) (one other : EndOfLink) (label : ℕ) → AreInTouch one other → TouchOn one other (done one.setup (working instances one) (grant_branch one.setup label))

-- *A tick comes to a label*, of which no REDIRECT is on its way: one that is offered is recalled where it isn't used, or else refreshed if
-- that is due; one that is recalled and isn't acknowledged is told again; of one that was quit the branch is asked to be deleted
abbrev pub TicksKeepTouch : Type 0
TicksKeepTouch = (desk : Desk) (instances : ℕ) (one other : EndOfLink) (label : ℕ) → AreInTouch one other → (IsToldAnew label one.said → ⊥)
    → number_of one.port < last_number → TouchOn one other (ticks_label one.setup desk (working instances one) label)

-- *A grant is given back* by the input that it was lent to, and ends where it is leaving
abbrev pub ReturnsKeepTouch : Type 0
ReturnsKeepTouch = (instances : ℕ) (one other : EndOfLink) (grant : Grant) → AreInTouch one other → at grant_label grant.label one.port.grants ≡ Some grant
    → number_of one.port < last_number → TouchOn one other (given_back (working instances one) grant)

-- *The branch of a label that was quit is deleted*
abbrev pub FreesKeepTouch : Type 0
FreesKeepTouch = (instances : ℕ) (one other : EndOfLink) (label : Label) → AreInTouch one other → label_at one.port label.number ≡ Some label → label.state ≡ Wired
    → TouchOn one other (done one.setup (working instances one) (label_tree one.setup label.number))

-- *A tick says LABEL RANGE*, where a label is acknowledged and waits; and it says an ACK, which names the number expected
abbrev pub NudgesKeepTouch : Type 0
NudgesKeepTouch = (instances : ℕ) (one other : EndOfLink) → AreInTouch one other → number_of one.port < last_number → TouchOn one other (nudges one.setup (working instances one))

abbrev pub GreetingsKeepTouch : Type 0
GreetingsKeepTouch = (one other : EndOfLink) → AreInTouch one other → AreInTouch (record one { said = one.said ++ ack_from one other (expected_of one.port) ∷ [] }) other

-- *What the other end doesn't see* of one: a grant is lent to an input; a label is joined to an output, or parted from it, or used by a
-- packet; in a tick windows move; and for how long it has heard nothing
abbrev pub LendingKeepsTouch : Type 0
LendingKeepsTouch = (instances : ℕ) (one other : EndOfLink) (grant : Grant) (input : End) → AreInTouch one other → at grant_label grant.label one.port.grants ≡ Some grant
    → is_leaving grant.state ≡ false → TouchOn one other (lent (working instances one) grant input)

pub record JoinedOn (instances : ℕ) (one other : EndOfLink) (number : ℕ) : Type 0 where
  pub joins : (output : End) → TouchOn one other (joined (working instances one) number output)
  pub parts : TouchOn one other (parted (working instances one) number)
  pub is_used : TouchOn one other (used (working instances one) number)

abbrev pub JoinsKeepTouch : Type 0
JoinsKeepTouch = (instances : ℕ) (one other : EndOfLink) (number : ℕ) → AreInTouch one other → JoinedOn instances one other number

abbrev pub WindowsKeepTouch : Type 0
WindowsKeepTouch = (instances : ℕ) (one other : EndOfLink) → AreInTouch one other → TouchOn one other (moves_windows one.setup (working instances one))

abbrev pub SilenceKeepsTouch : Type 0
SilenceKeepsTouch = (one other : EndOfLink) (silence : ℕ) → AreInTouch one other
    → AreInTouch (record one { port = record one.port { adjacency = record one.port.adjacency { silence = silence } } }) other
