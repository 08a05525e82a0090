-- what a run gives at each event of a stretch: the ledger only grows, what was made stays, default channels lead to their port and home

use Rattle.std.proofs.Common.{◌≡◌, ℕ, Bool, true, false, true≢false, List, [], ◌∷◌, ◌++◌, append_assoc, append-nil, Some, sym, ◌∙◌, ap, subst, refl}
use Rattle.world_model.specs.Words.{Policy, Mark, Entry, has_entry, losses_of, payload_of, IsLinkPort, Topology, World, is_empty, past_of, IsNode, IsRun, next, CountsAsItsFrame}
use Rattle.world_model.specs.World.{opened}
use Rattle.world_model.specs.network_model.declared.link.LinkEnd.{LinkEnd}
use Rattle.world_model.specs.network_model.declared.event.Event.{Event}
use Rattle.law_live_carried_out.proofs.law_causes.law_cell_lists.Takers.{entry_kept}
use Rattle.law_live_carried_out.specs.law_run_facts.law_world_views.Between.{IsWorld}
use Rattle.law_live_carried_out.specs.law_run_facts.law_world_views.Kept.{Comes}
use Rattle.law_live_carried_out.specs.law_run_facts.Nodes.{HasSite, IsNodeOfRun}
use Rattle.law_live_carried_out.proofs.law_run_facts.Grown.{frames_stay}
use Rattle.law_live_carried_out.proofs.law_run_facts.Nodes.{runs_have_nodes}
use Rattle.law_live_carried_out.proofs.law_run_facts.Rooms.{runs_keep_nodes}
use Rattle.law_live_carried_out.proofs.law_run_facts.Steps.{after_one, front_run}
use Rattle.law_live_carried_out.proofs.law_control_places.Chains.{chains_are_their_frames}
use Rattle.law_true_losses.proofs.Runs.{losses_are_true}
use Rattle.law_live_carried_out.specs.law_true_runs.Runs.{HoldsInRuns, IsWhole}
use Rattle.law_live_carried_out.proofs.law_true_runs.Walk.{holds_at, comes_at}
use Rattle.law_live_carried_out.specs.law_live_hearing.Law.{world_at, IsOnItsWay, LeadsByDefault}
use Rattle.law_live_carried_out.proofs.law_live_hearing.Shapes.{shapes_lead_by_default}
use Rattle.law_live_journeys.specs.Hops.{IsStretch}

module _ (policy : Policy) (topology : Topology) where
  abbrev Entered : Mark → List Event → Bool
  Entered mark events = has_entry (world_at policy topology events).notes.entries mark

  -- *What is entered stays*
  entered_next : (before : List Event) (event : Event) (mark : Mark) → Entered mark before ≡ true → Entered mark (before ++ event ∷ []) ≡ true
  entered_next before event mark e =
      let w : World = world_at policy topology before in
      ap (λ (v : World). has_entry v.notes.entries mark) (after_one topology (opened policy topology) before event)
      ∙ (ap (λ (entries : List Entry). has_entry entries mark) ((losses_are_true policy topology (before ++ event ∷ [])).each before [] event refl).entered
      ∙ entry_kept w.notes.entries (losses_of (next topology w event).notes.records) mark e)

  entered_later : (before after : List Event) (mark : Mark) → Entered mark before ≡ true → Entered mark (before ++ after) ≡ true
  entered_later before [] mark e = subst (λ (es : List Event). Entered mark es ≡ true) (sym (append-nil before)) e
  entered_later before (event ∷ after) mark e = subst (λ (es : List Event). Entered mark es ≡ true) (append_assoc before (event ∷ []) after)
      (entered_later (before ++ event ∷ []) after mark (entered_next before event mark e))

  pub unlost_before : (before after : List Event) (mark : Mark) → Entered mark (before ++ after) ≡ false → Entered mark before ≡ false
  unlost_before before after mark none = by (Entered mark before) refl
    where
      by : (b : Bool) → Entered mark before ≡ b → Entered mark before ≡ false
      by false e = e
      by true e = absurd (true≢false (sym (entered_later before after mark e) ∙ none))

module _ (whole : HoldsInRuns IsWhole) (policy : Policy) (topology : Topology) (past events : List Event) (stretch : IsStretch policy topology past events) where
  abbrev all : List Event
  all = past ++ events

  comes : (before after : List Event) (event : Event) → all ≡ before ++ event ∷ after → Comes policy topology before event
  comes before after event split = comes_at policy topology stretch.addresses all before after event stretch.run stretch.tame split

  world : (before after : List Event) → all ≡ before ++ after → IsWorld (past_of policy topology before)
  world before after split = (holds_at policy topology stretch.addresses IsWhole whole all before after stretch.run stretch.tame split).world

  pub begun : (before after : List Event) → all ≡ before ++ after → IsRun policy topology before
  begun before after split = front_run policy topology before after (subst (IsRun policy topology) split stretch.run)

  -- *What was made stays*
  abbrev Made : Mark → List ℕ → List Event → Type 0
  Made mark payload es = payload_of (world_at policy topology es).notes.frames mark ≡ Some payload

  made_later : (middle before after : List Event) (mark : Mark) (payload : List ℕ) → all ≡ before ++ (middle ++ after) → Made mark payload before → Made mark payload (before ++ middle)
  made_later [] before after mark payload split made = subst (Made mark payload) (sym (append-nil before)) made
  made_later (event ∷ middle) before after mark payload split made = subst (Made mark payload) (append_assoc before (event ∷ []) middle)
      (made_later middle (before ++ event ∷ []) after mark payload (split ∙ sym (append_assoc before (event ∷ []) (middle ++ after)))
      ((frames_stay policy topology before event (comes before (middle ++ after) event split) (world before (event ∷ (middle ++ after)) split)).kept mark payload made))

  pub counts : (before after : List Event) (event : Event) → all ≡ before ++ event ∷ after → CountsAsItsFrame (world_at policy topology before) event
  counts before after event split = chains_are_their_frames policy topology before event (comes before after event split).tame

  -- *Default channels*
  pub leads : (before after : List Event) → all ≡ before ++ after → (one : LinkEnd) → IsNode topology one.node → IsLinkPort one.port → LeadsByDefault (world_at policy topology before) one.node one.port
  leads before after split one within link =
      let run : IsRun policy topology before = begun before after split in
      let there : HasSite (world_at policy topology before) one.node = runs_keep_nodes policy topology before run one.node within in
      let node : IsNodeOfRun policy (past_of policy topology before) one.node there.site =
      runs_have_nodes policy topology before stretch.addresses run one.node there.site there.is in
      shapes_lead_by_default (world_at policy topology before) one.node there.site one.port there.is node.ports.links link
      ((world before after split).shapes one.node there.site there.is)

  -- *A frame on its way*, from a front of the stretch on
  pub on_its_way : (before after : List Event) (mark : Mark) (payload : List ℕ) → all ≡ before ++ after → Made mark payload before → Entered policy topology mark all ≡ false
      → IsOnItsWay policy topology before after mark payload
  on_its_way before after mark payload split made none = record {
    run = subst (IsRun policy topology) split stretch.run;
    unlost = λ first rest e. unlost_before policy topology (before ++ first) rest mark
        (subst (λ (es : List Event). Entered policy topology mark es ≡ false) (split_at first rest e) none);
    made = λ first rest e. made_later first before rest mark payload (split ∙ ap (λ (es : List Event). before ++ es) e) made;
    counts = λ first rest event e. counts (before ++ first) rest event (split_at first (event ∷ rest) e);
    empties = subst (λ (es : List Event). is_empty (world_at policy topology es) ≡ true) split stretch.empties;
  }
    where
      split_at : (first rest : List Event) → after ≡ first ++ rest → all ≡ (before ++ first) ++ rest
      split_at first rest e = split ∙ (ap (λ (es : List Event). before ++ es) e ∙ sym (append_assoc before first rest))
