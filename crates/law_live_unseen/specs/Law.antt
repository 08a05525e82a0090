-- What a port changes of its labels and grants, and the other end of its link doesn't see

use Rattle.std.specs.Prelude.{◌≡◌, ℕ, Bool, false, map, Some, is_some}
use Rattle.live_model.specs.world_model.Words.{End, FlowId, at, Label, LabelState, labels_of, Grant, grant_label, is_leaving, lent, started, used}
use Rattle.live_model.specs.world_model.port_model.Joins.{joined, parted}
use Rattle.live_model.specs.world_model.port_model.Port.{Port}
use Rattle.law_live_links.specs.Law.{EndOfLink, number_of, expected_of, AreAgreed, working}

-- *The other end sees* of a label its number, its state and its flow, and when it was told last; of a grant its label and its flow,
-- its lifetime, and whether it is leaving
pub record SeenLabel : Type 0 where
  pub number : ℕ
  pub state : LabelState
  pub flow : FlowId
  pub ticks : ℕ

abbrev pub seen_label : Label → SeenLabel
seen_label label = record { number = label.number; state = label.state; flow = label.flow; ticks = label.ticks }

pub record SeenGrant : Type 0 where
  pub label : ℕ
  pub flow : FlowId
  pub lifetime : ℕ
  pub leaving : Bool

abbrev pub seen_grant : Grant → SeenGrant
seen_grant grant = record { label = grant.label; flow = grant.flow; lifetime = grant.lifetime; leaving = is_leaving grant.state }

-- *Two ports are alike* to it: in these, in the adjacency, and in the numbers of their sessions
pub record AreAlike (before after : Port) : Type 0 where
  pub adjacency : after.adjacency ≡ before.adjacency
  pub in_session : is_some after.session ≡ is_some before.session
  pub number : number_of after ≡ number_of before
  pub expected : expected_of after ≡ expected_of before
  pub labels : map seen_label (labels_of after) ≡ map seen_label (labels_of before)
  pub grants : map seen_grant after.grants ≡ map seen_grant before.grants

abbrev pub LikePortsAgree : Type 0
LikePortsAgree = (one other : EndOfLink) (port : Port) → AreAgreed one other → AreAlike one.port port → AreAgreed (record one { port = port }) other

-- *A grant is lent* to the input of a label, and the label joined to it, or parted from it
abbrev pub GrantsAreLentUnseen : Type 0
GrantsAreLentUnseen = (instances : ℕ) (e : EndOfLink) (grant : Grant) (input : End) → at grant_label grant.label e.port.grants ≡ Some grant → is_leaving grant.state ≡ false
    → AreAlike e.port (lent (working instances e) grant input).port

abbrev pub LabelsAreJoinedUnseen : Type 0
LabelsAreJoinedUnseen = (instances : ℕ) (e : EndOfLink) (number : ℕ) (output : End) → AreAlike e.port (joined (working instances e) number output).port

abbrev pub LabelsArePartedUnseen : Type 0
LabelsArePartedUnseen = (instances : ℕ) (e : EndOfLink) (number : ℕ) → AreAlike e.port (parted (working instances e) number).port

-- *A grant is started*, and a packet uses a label
abbrev pub GrantsAreStartedUnseen : Type 0
GrantsAreStartedUnseen = (instances : ℕ) (e : EndOfLink) (label : ℕ) → AreAlike e.port (started (working instances e) (at grant_label label e.port.grants)).port

abbrev pub LabelsAreUsedUnseen : Type 0
LabelsAreUsedUnseen = (instances : ℕ) (e : EndOfLink) (number : ℕ) → AreAlike e.port (used (working instances e) number).port
