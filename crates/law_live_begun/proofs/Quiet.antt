-- quiet calm beats that begin a run: their events are ticks and carries, and each front of them is such a run

use Rattle.std.proofs.Common.{◌≡◌, List, [], ◌∷◌, ◌++◌, append_assoc, append-nil, fold, map, refl, sym, ◌∙◌, ap, subst}
use Rattle.world_model.specs.Words.{Policy, Place, Topology, World, Site, tick_of, switch_tick_of, world_after, past_of, Past, IsRun, IsTame, IsShaped}
use Rattle.world_model.specs.World.{opened}
use Rattle.world_model.specs.network_model.declared.event.Event.{Event}
use Rattle.world_model.specs.network_model.declared.event.Event.TheVariants.{Carry}
use Rattle.live_model.specs.Beats.{Beat, events_in, behind}
use Rattle.live_model.specs.Waking.{events_of}
use Rattle.law_live_begun.specs.Begun.{IsQuiet}
use Rattle.calm_model.specs.Calm.{IsCalm, IsCalmBeat, AreCalmBeats}
use Rattle.law_link_parties.specs.law_run_facts.ordered_lists.Ordered.{Every}
use Rattle.law_link_parties.specs.law_run_facts.law_world_views.Fronts.{HasAddresses}
use Rattle.law_link_parties.specs.law_run_facts.law_world_views.Kept.{Comes}
use Rattle.law_link_parties.proofs.law_run_facts.ordered_lists.Every.{every_left, every_right, every_join}
use Rattle.law_link_parties.proofs.law_run_facts.Nodes.{runs_have_nodes}
use Rattle.law_link_parties.proofs.law_run_facts.Rooms.{runs_keep_nodes}
use Rattle.law_link_parties.proofs.law_link_met.law_link_woken.law_live_woken_links.law_live_rested.law_packet_worlds.Nets.{world_net}
use Rattle.law_link_parties.specs.law_live_rested.law_true_runs.Runs.{HoldsInRuns}
use Rattle.law_link_parties.proofs.law_link_met.law_link_woken.law_true_runs.Fronts.{front_run, front_tame}
use Rattle.law_link_parties.proofs.law_link_met.law_link_woken.law_true_runs.Walk.{comes_at}
use Rattle.law_link_parties.specs.law_live_hearing.Law.{world_at}
use Rattle.law_link_parties.proofs.law_live_hearing.Going.{after_all}
use Rattle.law_live_begun.specs.First.{IsFirstWorld}
use Rattle.law_live_begun.specs.Worlds.{IsQuietEvent, IsQuietRun, NetworksGoOn}
use Rattle.law_live_begun.specs.Beats.{BeginsSo, world_behind}

-- *Beats one behind another*
module _ (topology : Topology) where
  pub events_join : (beats more : List Beat) (w : World) → events_of topology w (beats ++ more) ≡ events_of topology w beats ++ events_of topology (fold (behind topology) w beats) more
  events_join [] more w = refl
  events_join (beat ∷ beats) more w = ap (λ (es : List Event). events_in w beat ++ es) (events_join beats more (behind topology w beat))
      ∙ sym (append_assoc (events_in w beat) (events_of topology (behind topology w beat) beats) (events_of topology (fold (behind topology) (behind topology w beat) beats) more))

  pub behind_all : (beats : List Beat) (w : World) → world_after topology w (events_of topology w beats) ≡ fold (behind topology) w beats
  behind_all [] w = refl
  behind_all (beat ∷ beats) w = after_all topology w (events_in w beat) (events_of topology (behind topology w beat) beats) ∙ behind_all beats (behind topology w beat)

  pub folds_join : (beats more : List Beat) (w : World) → fold (behind topology) w (beats ++ more) ≡ fold (behind topology) (fold (behind topology) w beats) more
  folds_join [] more w = refl
  folds_join (beat ∷ beats) more w = folds_join beats more (behind topology w beat)

  pub calm_left : (beats more : List Beat) (w : World) → AreCalmBeats topology w (beats ++ more) → AreCalmBeats topology w beats
  calm_left [] more w calm = tt
  calm_left (beat ∷ beats) more w calm = (calm.0, calm_left beats more (behind topology w beat) calm.1)

  pub calm_right : (beats more : List Beat) (w : World) → AreCalmBeats topology w (beats ++ more) → AreCalmBeats topology (fold (behind topology) w beats) more
  calm_right [] more w calm = calm
  calm_right (beat ∷ beats) more w calm = calm_right beats more (behind topology w beat) calm.1

-- *Quiet beats* tick, and then carry
pub quiet_in : (w : World) (beat : Beat) → IsQuiet beat → events_in w beat ≡ map tick_of w.sites ++ (map switch_tick_of w.sites ++ map Carry beat.carries)
quiet_in w beat quiet = ap (λ (es : List Event). ((map tick_of w.sites ++ map switch_tick_of w.sites) ++ map Carry beat.carries) ++ es) quiet
    ∙ (append-nil ((map tick_of w.sites ++ map switch_tick_of w.sites) ++ map Carry beat.carries) ∙ append_assoc (map tick_of w.sites) (map switch_tick_of w.sites) (map Carry beat.carries))

ticks_quiet : (sites : List Site) → Every IsQuietEvent (map tick_of sites)
ticks_quiet [] = tt
ticks_quiet (site ∷ sites) = (tt, ticks_quiet sites)

switch_ticks_quiet : (sites : List Site) → Every IsQuietEvent (map switch_tick_of sites)
switch_ticks_quiet [] = tt
switch_ticks_quiet (site ∷ sites) = (tt, switch_ticks_quiet sites)

carries_quiet : (places : List Place) → Every IsQuietEvent (map Carry places)
carries_quiet [] = tt
carries_quiet (place ∷ places) = (tt, carries_quiet places)

pub quiet_events : (w : World) (beat : Beat) → IsQuiet beat → Every IsQuietEvent (events_in w beat)
quiet_events w beat quiet = subst (Every IsQuietEvent) (sym (quiet_in w beat quiet))
    (every_join IsQuietEvent (map tick_of w.sites) (map switch_tick_of w.sites ++ map Carry beat.carries) (ticks_quiet w.sites)
    (every_join IsQuietEvent (map switch_tick_of w.sites) (map Carry beat.carries) (switch_ticks_quiet w.sites) (carries_quiet beat.carries)))

pub quiet_all : (topology : Topology) (beats : List Beat) (w : World) → Every IsQuiet beats → Every IsQuietEvent (events_of topology w beats)
quiet_all topology [] w quiet = tt
quiet_all topology (beat ∷ beats) w quiet = every_join IsQuietEvent (events_in w beat) (events_of topology (behind topology w beat) beats)
    (quiet_events w beat quiet.0) (quiet_all topology beats (behind topology w beat) quiet.1)

module _ (policy : Policy) (topology : Topology) where
  -- *Fronts* of a quiet run are quiet runs
  pub quiet_front : (before after : List Event) → IsQuietRun policy topology (before ++ after) → IsQuietRun policy topology before
  quiet_front before after quiet = record {
    run = front_run policy topology before after quiet.run;
    addresses = quiet.addresses;
    tame = front_tame policy topology before after quiet.tame;
    quiet = every_left IsQuietEvent before after quiet.quiet;
  }

  -- *Quiet calm beats* begin so; and so do the first ones of them
  pub begins_so : (beats : List Beat) → IsRun policy topology (events_of topology (opened policy topology) beats) → HasAddresses topology
      → IsTame (past_of policy topology (events_of topology (opened policy topology) beats)).records → AreCalmBeats topology (opened policy topology) beats
      → Every IsQuiet beats → BeginsSo policy topology beats
  begins_so beats run addresses tame calm quiet = record {
    run = record { run = run; addresses = addresses; tame = tame; quiet = quiet_all topology beats (opened policy topology) quiet };
    calm = calm;
    quiet = quiet;
  }

  pub begins_front : (beats more : List Beat) → BeginsSo policy topology (beats ++ more) → BeginsSo policy topology beats
  begins_front beats more begins = record {
    run = quiet_front (events_of topology (opened policy topology) beats) (events_of topology (world_behind policy topology beats) more)
        (subst (IsQuietRun policy topology) (events_join topology beats more (opened policy topology)) begins.run);
    calm = calm_left topology beats more (opened policy topology) begins.calm;
    quiet = every_left IsQuiet beats more begins.quiet;
  }

  -- *The world behind them*
  abbrev pub events_to : List Beat → List Event
  events_to beats = events_of topology (opened policy topology) beats

  pub world_there : (beats : List Beat) → world_at policy topology (events_to beats) ≡ world_behind policy topology beats
  world_there beats = behind_all topology beats (opened policy topology)

  pub behind_front : (beats : List Beat) (front : List Event) → world_at policy topology (events_to beats ++ front) ≡ world_after topology (world_behind policy topology beats) front
  behind_front beats front = after_all topology (opened policy topology) (events_to beats) front ∙ ap (λ (w : World). world_after topology w front) (world_there beats)

  pub begins_shaped : (beats : List Beat) → BeginsSo policy topology beats → IsShaped (world_behind policy topology beats)
  begins_shaped beats begins = subst IsShaped (world_there beats) (world_net policy topology (events_to beats)
      (runs_have_nodes policy topology (events_to beats) begins.run.addresses begins.run.run) (runs_keep_nodes policy topology (events_to beats) begins.run.run)).shaped

  pub begins_first : NetworksGoOn → (beats : List Beat) → BeginsSo policy topology beats → IsFirstWorld topology (world_behind policy topology beats)
  begins_first on beats begins = subst (IsFirstWorld topology) (world_there beats) (on policy topology (events_to beats) begins.run)

  -- *A beat of them*
  module _ (beats : List Beat) (beat : Beat) (more : List Beat) (begins : BeginsSo policy topology (beats ++ beat ∷ more)) where
    abbrev there : World
    there = world_behind policy topology beats

    abbrev later : List Event
    later = events_of topology (behind topology there beat) more

    pub beat_calm : IsCalmBeat topology there beat
    beat_calm = (calm_right topology beats (beat ∷ more) (opened policy topology) begins.calm).0

    pub beat_quiet : IsQuiet beat
    beat_quiet = (every_right IsQuiet beats (beat ∷ more) begins.quiet).0

    pub beat_shaped : IsShaped there
    beat_shaped = begins_shaped beats (begins_front beats (beat ∷ more) begins)

    -- and each of its fronts, behind those before it
    pub split_to : (front rest : List Event) → events_in there beat ≡ front ++ rest → events_to (beats ++ beat ∷ more) ≡ (events_to beats ++ front) ++ (rest ++ later)
    split_to front rest e = events_join topology beats (beat ∷ more) (opened policy topology)
        ∙ (ap (λ (es : List Event). events_to beats ++ (es ++ later)) e
        ∙ (ap (λ (es : List Event). events_to beats ++ es) (append_assoc front rest later) ∙ sym (append_assoc (events_to beats) front (rest ++ later))))

    pub run_to : (front rest : List Event) → events_in there beat ≡ front ++ rest → IsQuietRun policy topology (events_to beats ++ front)
    run_to front rest e = quiet_front (events_to beats ++ front) (rest ++ later) (subst (IsQuietRun policy topology) (split_to front rest e) begins.run)

    pub first_at : NetworksGoOn → (front rest : List Event) → events_in there beat ≡ front ++ rest → IsFirstWorld topology (world_after topology there front)
    first_at on front rest e = subst (IsFirstWorld topology) (behind_front beats front) (on policy topology (events_to beats ++ front) (run_to front rest e))

    pub holds_to : (P : Past → Type 0) → HoldsInRuns P → (front rest : List Event) → events_in there beat ≡ front ++ rest → P (past_of policy topology (events_to beats ++ front))
    holds_to P holds front rest e =
        let to : IsQuietRun policy topology (events_to beats ++ front) = run_to front rest e in
        holds policy topology (events_to beats ++ front) to.run to.addresses to.tame

    pub comes_to : (front rest : List Event) (event : Event) → events_in there beat ≡ front ++ event ∷ rest → Comes policy topology (events_to beats ++ front) event
    comes_to front rest event e = comes_at policy topology begins.run.addresses (events_to (beats ++ beat ∷ more)) (events_to beats ++ front) (rest ++ later) event
        begins.run.run begins.run.tame (split_to front (event ∷ rest) e)

    pub calm_to : (front rest : List Event) (event : Event) → events_in there beat ≡ front ++ event ∷ rest → IsCalm topology (world_after topology there front) event
    calm_to front rest event e = beat_calm.calm front rest event e
