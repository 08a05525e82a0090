-- what is asked of a node and of the events of beats holds in a run

use Rattle.std.proofs.Common.{◌≡◌, List, [], ◌∷◌, ◌++◌, append_assoc, refl, sym, ◌∙◌, ap, subst}
use Rattle.world_model.specs.Words.{NodeId, Policy, Topology, World, IsShaped, world_after, past_of, IsRun, IsTame}
use Rattle.world_model.specs.World.{opened}
use Rattle.world_model.specs.network_model.declared.event.Event.{Event}
use Rattle.live_model.specs.Beats.{Beat, events_in, behind}
use Rattle.law_live_tables.specs.law_run_facts.law_world_views.Between.{IsWorld}
use Rattle.law_live_tables.specs.law_run_facts.law_world_views.Fronts.{HasAddresses}
use Rattle.law_live_tables.specs.law_run_facts.law_world_views.Kept.{Comes}
use Rattle.law_live_tables.proofs.law_run_facts.Nodes.{runs_have_nodes}
use Rattle.law_live_tables.proofs.law_run_facts.Rooms.{runs_keep_nodes}
use Rattle.law_live_tables.proofs.law_run_facts.Steps.{front_run}
use Rattle.law_packet_worlds.proofs.Nets.{world_net}
use Rattle.law_true_runs.specs.Runs.{HoldsInRuns, IsWhole}
use Rattle.law_true_runs.proofs.Walk.{holds_at, comes_at}
use Rattle.law_live_tables.specs.law_live_hearing.Law.{world_at}
use Rattle.law_live_tables.proofs.law_live_hearing.Going.{after_all}
use Rattle.law_live_tables.specs.law_live_waking.Law.{IsGoing}
use Rattle.law_live_tables.specs.law_live_waking.Beats.{IsPeacefulBeat, ArePeacefulBeats}
use Rattle.law_live_tables.proofs.law_live_waking.Runs.{runs_go}
use Rattle.law_live_tables.proofs.law_live_waking.Beats.{nodes_wake}
use Rattle.law_live_woken.specs.Law.{events_of, IsBeatInPeace, AreBeatsInPeace, RunsWake}

module _ (whole : HoldsInRuns IsWhole) (policy : Policy) (topology : Topology) (node : NodeId) (addresses : HasAddresses topology) where
  -- *A beat*, and what comes behind it
  module _ (before later : List Event) (w : World) (now : world_at policy topology before ≡ w) (beat : Beat) (run : IsRun policy topology (before ++ (events_in w beat ++ later)))
      (tame : IsTame (past_of policy topology (before ++ (events_in w beat ++ later))).records) where
    abbrev all : List Event
    all = before ++ (events_in w beat ++ later)

    behind_front : (front : List Event) → world_at policy topology (before ++ front) ≡ world_after topology w front
    behind_front front = after_all topology (opened policy topology) before front ∙ ap (λ (u : World). world_after topology u front) now

    split : (front rest : List Event) (event : Event) → events_in w beat ≡ front ++ event ∷ rest → all ≡ (before ++ front) ++ event ∷ (rest ++ later)
    split front rest event e = ap (λ (es : List Event). before ++ (es ++ later)) e
        ∙ (ap (λ (es : List Event). before ++ es) (append_assoc front (event ∷ rest) later) ∙ sym (append_assoc before front (event ∷ (rest ++ later))))

    going : (front rest : List Event) (event : Event) → events_in w beat ≡ front ++ event ∷ rest → IsGoing topology (world_after topology w front) node event
    going front rest event e =
        let comes : Comes policy topology (before ++ front) event = comes_at policy topology addresses all (before ++ front) (rest ++ later) event run tame (split front rest event e) in
        let world : IsWorld (past_of policy topology (before ++ front)) =
        (holds_at policy topology addresses IsWhole whole all (before ++ front) (event ∷ (rest ++ later)) run tame (split front rest event e)).world in
        subst (λ (u : World). IsGoing topology u node event) (behind_front front) (runs_go policy topology (before ++ front) event comes world node)

    shaped : IsShaped w
    shaped =
        let begun : IsRun policy topology before = front_run policy topology before (events_in w beat ++ later) run in
        subst IsShaped now (world_net policy topology before (runs_have_nodes policy topology before addresses begun) (runs_keep_nodes policy topology before begun)).shaped

    pub peaceful_beat : IsBeatInPeace topology w node beat → IsPeacefulBeat topology w node beat
    peaceful_beat peace = record {
      is_beat = peace.is_beat;
      shaped = shaped;
      peaceful = λ front rest event e. (going front rest event e, peace.peace front rest event e);
    }

  peaceful_beats : (beats : List Beat) (before : List Event) (w : World) → world_at policy topology before ≡ w → IsRun policy topology (before ++ events_of topology w beats)
      → IsTame (past_of policy topology (before ++ events_of topology w beats)).records → AreBeatsInPeace topology w node beats → ArePeacefulBeats topology w node beats
  peaceful_beats [] before w now run tame peace = tt
  peaceful_beats (beat ∷ beats) before w now run tame peace =
      let later : List Event = events_of topology (behind topology w beat) beats in
      let joined : before ++ (events_in w beat ++ later) ≡ (before ++ events_in w beat) ++ later = sym (append_assoc before (events_in w beat) later) in (
        peaceful_beat before later w now beat run tame peace.0,
        peaceful_beats beats (before ++ events_in w beat) (behind topology w beat) (behind_front before later w now beat run tame (events_in w beat))
            (subst (IsRun policy topology) joined run) (subst (λ (es : List Event). IsTame (past_of policy topology es).records) joined tame) peace.1,
      )

pub runs_wake : HoldsInRuns IsWhole → RunsWake
runs_wake whole policy topology before node beats given rests peace enough =
    nodes_wake topology (world_at policy topology before) node beats rests
    (peaceful_beats whole policy topology node given.addresses beats before (world_at policy topology before) refl given.run given.tame peace) enough
