-- a frame that goes under a grant in the first event of a stretch comes to the last end of its way

use Rattle.std.proofs.Common.{◌≡◌, ℕ, false, List, [], ◌∷◌, ◌++◌, append_assoc, Some, sym, ◌∙◌, ap, subst}
use Rattle.world_model.specs.Words.{Policy, Down, Channel, Mark, Cell, has_entry, payload_of, next_mark, labelled_payload, kind_of, onward, Grant, control_end, label_end, Topology, World, next, IsNode}
use Rattle.world_model.specs.World.{opened}
use Rattle.world_model.specs.Topology.{peer_of}
use Rattle.world_model.specs.network_model.declared.link.LinkEnd.{LinkEnd}
use Rattle.world_model.specs.network_model.declared.event.Event.{Event}
use Rattle.law_live_ease.specs.law_passing.telling_model.Passing.{left}
use Rattle.law_live_ease.proofs.law_passing.Worlds.{change_by_passing}
use Rattle.law_live_ease.proofs.law_run_facts.Steps.{after_one}
use Rattle.law_live_ease.specs.law_true_runs.Runs.{HoldsInRuns, IsWhole}
use Rattle.law_live_ease.specs.law_live_hearing.Law.{world_at, IsOnItsWay, Waits}
use Rattle.law_live_ease.proofs.law_live_hearing.Waiting.{frames_wait}
use Rattle.law_live_ease.specs.law_live_journeys.Hops.{IsStretch}
use Rattle.law_live_ease.proofs.law_live_journeys.Runs.{on_its_way}
use Rattle.law_live_cut_through.specs.Under.{frame_under, GoesUnder}
use Rattle.law_live_cut_through.specs.Led.{Leads, LeadsAlong, last_end, last_label, ComesUnder, SentFramesAreLed}
use Rattle.law_live_cut_through.proofs.LedLeading.{frames_are_led}

module _ (whole : HoldsInRuns IsWhole) (policy : Policy) (topology : Topology) (past events : List Event) (event : Event) (one : LinkEnd) (came : Mark) (grant : Grant) (packet : List ℕ)
    (stretch : IsStretch policy topology past (event ∷ events)) (under : GoesUnder topology (world_at policy topology past) event one came grant packet)
    (none : has_entry (world_at policy topology (past ++ event ∷ events)).notes.entries (next_mark came) ≡ false) where
  abbrev w : World
  w = world_at policy topology past

  abbrev now : List Event
  now = past ++ event ∷ []

  abbrev mark : Mark
  mark = next_mark came

  abbrev payload : List ℕ
  payload = labelled_payload (kind_of grant.flow) (onward packet)

  abbrev channel : Channel
  channel = (control_end one.port grant.label).channel

  reached_is : world_at policy topology now ≡ next topology w event
  reached_is = after_one topology (opened policy topology) past event

  way : IsOnItsWay policy topology now events mark payload
  way = on_its_way whole policy topology past (event ∷ events) stretch now events mark payload (sym (append_assoc past (event ∷ []) events))
      (ap (λ (v : World). payload_of v.notes.frames mark) reached_is ∙ under.made) none

  waits : Waits (world_at policy topology now) (Down one.node) channel mark
  waits = subst (λ (v : World). Waits v (Down one.node) channel mark) (sym reached_is)
      (frames_wait (next topology w event) (Down one.node) channel mark payload (left w event (Down one.node) ++ under.put.front) under.put.after
      (change_by_passing topology w event (Down one.node)
      ∙ (ap (λ (cells : List Cell). left w event (Down one.node) ++ cells) under.put.is
      ∙ sym (append_assoc (left w event (Down one.node)) under.put.front (frame_under one.port grant came packet ++ under.put.after)))))

  module _ (far : LinkEnd) (ends : List LinkEnd) (within : IsNode topology one.node) (led : peer_of topology one.node one.port ≡ Some far)
      (leads : Leads policy topology now events one.node (control_end one.port grant.label) (label_end one.port grant.label))
      (along : LeadsAlong policy topology now events far grant.label ends) where
    pub comes : ComesUnder policy topology now events (last_end far ends) (last_label policy topology now events far grant.label ends along) mark
    comes = frames_are_led policy topology now events mark payload one far grant.label ends way within led waits leads along

    pub made : (front rest : List Event) → events ≡ front ++ rest → payload_of (world_at policy topology (now ++ front)).notes.frames mark ≡ Some payload
    made = way.made

pub sent_frames_are_led : HoldsInRuns IsWhole → SentFramesAreLed
sent_frames_are_led whole policy topology past events event one far came grant packet ends stretch within led under none leads along = (
  comes whole policy topology past events event one came grant packet stretch under none far ends within led leads along,
  made whole policy topology past events event one came grant packet stretch under none far ends within led leads along,
)
