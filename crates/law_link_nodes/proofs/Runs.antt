-- so it is in a run, where peace is all that is asked

use Rattle.std.proofs.Common.{◌≡◌, ◌≤◌, List, [], ◌∷◌, ◌++◌, append_assoc, fold, length, refl, sym, ◌∙◌, ap, subst}
use Rattle.world_model.specs.Words.{NodeId, Policy, Topology, World, past_of, IsRun, IsTame, world_after}
use Rattle.world_model.specs.World.{opened}
use Rattle.world_model.specs.network_model.declared.event.Event.{Event}
use Rattle.live_model.specs.Beats.{Beat, events_in, behind}
use Rattle.live_model.specs.Waking.{AreBeatsInPeace, events_of}
use Rattle.law_link_names.specs.law_run_facts.law_world_views.Fronts.{HasAddresses}
use Rattle.law_link_names.proofs.law_run_facts.Steps.{front_run}
use Rattle.law_link_names.specs.law_true_runs.Runs.{HoldsInRuns, IsWhole}
use Rattle.law_link_names.specs.law_live_hearing.Law.{world_at}
use Rattle.law_link_names.proofs.law_live_hearing.Going.{after_all}
use Rattle.law_link_names.specs.law_live_waking.Beats.{ArePeacefulBeats, RestsAt}
use Rattle.law_link_names.specs.law_live_woken.Law.{IsRunOfBeats}
use Rattle.law_link_names.proofs.law_live_woken.Woken.{peaceful_beat}
use Rattle.law_link_names.specs.law_live_rested.Law.{IsStill}
use Rattle.law_link_names.proofs.law_live_rested.Rested.{still_nodes_rest}
use Rattle.law_link_nodes.specs.Law.{RunsStayMet, WokenNodesStayMet}
use Rattle.law_link_nodes.proofs.Beats.{StaysFrom, nodes_stay_met, woken_stay}

module _ (whole : HoldsInRuns IsWhole) (policy : Policy) (topology : Topology) (node : NodeId) (addresses : HasAddresses topology) where
  peaceful_beats : (beats : List Beat) (before : List Event) (w : World) → world_at policy topology before ≡ w → IsRun policy topology (before ++ events_of topology w beats)
      → IsTame (past_of policy topology (before ++ events_of topology w beats)).records → AreBeatsInPeace topology w node beats → ArePeacefulBeats topology w node beats
  peaceful_beats [] before w now run tame peace = tt
  peaceful_beats (beat ∷ beats) before w now run tame peace =
      let later : List Event = events_of topology (behind topology w beat) beats in
      let joined : before ++ (events_in w beat ++ later) ≡ (before ++ events_in w beat) ++ later = sym (append_assoc before (events_in w beat) later) in (
        peaceful_beat whole policy topology node addresses before later w now beat run tame peace.0,
        peaceful_beats beats (before ++ events_in w beat) (behind topology w beat)
            (after_all topology (opened policy topology) before (events_in w beat) ∙ ap (λ (u : World). world_after topology u (events_in w beat)) now)
            (subst (IsRun policy topology) joined run) (subst (λ (es : List Event). IsTame (past_of policy topology es).records) joined tame) peace.1,
      )

pub runs_stay_met : HoldsInRuns IsWhole → RunsStayMet
runs_stay_met whole policy topology before node one other beats given still lately peace =
    let w : World = world_at policy topology before in
    nodes_stay_met topology w node one other beats lately still.down still.up
    (peaceful_beats whole policy topology node given.addresses beats before w refl given.run given.tame peace)

pub woken_nodes_stay_met : HoldsInRuns IsWhole → WokenNodesStayMet
woken_nodes_stay_met whole policy topology before node beats more given still peace enough =
    let w : World = world_at policy topology before in
    let rests : RestsAt w node = still_nodes_rest policy topology before node (front_run policy topology before (events_of topology w (beats ++ more)) given.run) still in
    let from : StaysFrom topology (fold (behind topology) w beats) node more = woken_stay topology w node beats more rests
    (peaceful_beats whole policy topology node given.addresses (beats ++ more) before w refl given.run given.tame peace) enough in
    record { one = from.one; other = from.other; woken = from.woken; up = from.up }
