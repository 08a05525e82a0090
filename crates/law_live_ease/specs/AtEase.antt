-- A network at ease is at ease again behind each calm beat, whatever packets are sent in it

use Rattle.std.specs.Prelude.{◌≡◌, ◌≢◌, true, List, ◌++◌, [], Some, is_some}
use Rattle.world_model.specs.Words.{Policy, at, label_number, labels_of, Grant, Idle, Linked, Topology, IsTopology, World}
use Rattle.world_model.specs.Topology.{peer_of}
use Rattle.world_model.specs.network_model.declared.link.LinkEnd.{LinkEnd}
use Rattle.world_model.specs.network_model.declared.event.Event.{Event}
use Rattle.live_model.specs.Beats.{Beat, events_in}
use Rattle.law_live_journeys.specs.law_port_facts.ordered_lists.Ordered.{Every}
use Rattle.law_live_journeys.specs.law_live_links.Law.{IsAgreedOn}
use Rattle.law_live_journeys.specs.law_live_worlds.Law.{Shows, end_of}
use Rattle.law_live_journeys.specs.law_live_hearing.Law.{world_at}
use Rattle.law_live_ease.specs.Law.{IsAtEase}
use Rattle.law_live_ease.specs.Beats.{IsCalmBeat, AreCalmBeats, behind_beats}

-- *Behind a calm beat* it is at ease again, in a run before the first frame that is forged or passes by chance
abbrev pub BeatsKeepEase : Type 0
BeatsKeepEase = (policy : Policy) (topology : Topology) (before : List Event) (beat : Beat) → IsAtEase topology (world_at policy topology before)
    → IsCalmBeat policy topology before beat
    → IsAtEase topology (world_at policy topology (before ++ events_in (world_at policy topology before) beat))

-- *and so beat by beat*
abbrev pub EaseLasts : Type 0
EaseLasts = (policy : Policy) (topology : Topology) (before : List Event) (beats : List Beat) → IsAtEase topology (world_at policy topology before)
    → AreCalmBeats policy topology before beats → IsAtEase topology (world_at policy topology (behind_beats policy topology before beats))

-- *The two ends of a link agree*: each label that the one gives is offered, and the other holds it as a grant of the same flow; each grant
-- of the other is of such a label, and is used: the other sends under it, or has joined an input to it
pub record EndsAgree (linked far_linked : Linked) : Type 0 where
  pub labels : Every (IsAgreedOn (end_of linked []) (end_of far_linked [])) (labels_of linked.port)
  pub grants : Every (λ (grant : Grant). is_some (at label_number grant.label (labels_of linked.port)) ≡ true) far_linked.port.grants
  pub used : Every (λ (grant : Grant). grant.state ≢ Idle) far_linked.port.grants

-- *At ease* they do
abbrev pub EndsAtEaseAgree : Type 0
EndsAtEaseAgree = (topology : Topology) (w : World) (one far : LinkEnd) (linked far_linked : Linked) → IsTopology topology → IsAtEase topology w
    → peer_of topology one.node one.port ≡ Some far → Shows w one linked → Shows w far far_linked → EndsAgree linked far_linked
