-- what is kept in every run gives what is true of it

use Rattle.std.proofs.Common.{◌≡◌, List, ◌∷◌, ◌++◌, subst}
use Rattle.world_model.specs.Words.{Policy, Topology, past_of, HasCauses, IsRun, IsTame, Headline, AreOwned, IsInHarmony, HasFatesOnce}
use Rattle.world_model.specs.network_model.declared.event.Event.{Event}
use Rattle.law_lifetimes.specs.Run.{IsSetInRuns, EndsInRuns, SendsNoMoreInRuns, IsLedBackInRuns, IsEndedByResetInRuns}
use Rattle.law_run_facts.specs.Nodes.{RunsHaveNodes}
use Rattle.law_run_facts.specs.law_world_views.Between.{IsWorld, HasPacketsOnce}
use Rattle.law_run_facts.specs.law_world_views.Fronts.{HasAddresses}
use Rattle.law_told_tables.specs.Law.{TablesAreTold}
use Rattle.law_true_losses.specs.Law.{LossesAreTrue}
use Rattle.law_steady_routes.specs.Law.{FatesAreJourneys}
use Rattle.law_steady_routes.specs.Tables.{ChangesNoRoute, AreJourneys}
use Rattle.law_idle_policies.specs.Law.{NothingIsBound}
use Rattle.law_control_places.specs.Chains.{ChainsAreTheirFrames}
use Rattle.law_ownership.specs.Owning.{IsKept, HasOwnWays, LabelsAreOwned, WaysAreInOrder}
use Rattle.law_ownership.specs.Order.{AreInOrder}
use Rattle.law_ownership.specs.Copies.{CopiesAreInOrder}
use Rattle.law_ownership.specs.Order.{AreAllCopiesInOrder}
use Rattle.law_ownership.specs.Places.{WaysAreOwn}
use Rattle.law_ownership.specs.Binds.{EachBindIsUnused}
use Rattle.law_true_runs.specs.Fronts.{InFronts}
use Rattle.law_true_runs.specs.Lifetimes.{LifetimesEnd}
use Rattle.law_true_runs.specs.Run.{IsTrueRun}
use Rattle.law_true_runs.specs.Runs.{IsWhole, HoldsInRuns, BindsUnusedInRuns}
use Rattle.law_true_runs.proofs.Fronts.{front_run}
use Rattle.law_true_runs.proofs.Walk.{holds_at, comes_at}
use Rattle.law_true_runs.proofs.Fates.{fates_whole}
use Rattle.law_true_runs.proofs.Quiet.{CarriesEnd, is_quiet, packets_end}

-- a network of a run has controllers that are sound, and what goes between them is on its own channel
pub is_kept : RunsHaveNodes → (policy : Policy) (topology : Topology) (events : List Event) → IsRun policy topology events → HasAddresses topology
    → IsWorld (past_of policy topology events) → IsKept (past_of policy topology events)
is_kept nodes policy topology events run addresses w = record {
  topology_is = run.topology_is;
  world = w;
  sound = λ node site found. (nodes policy topology events addresses run node site found).conduct.sound;
  links = λ node site found. (nodes policy topology events addresses run node site found).ports.links;
  matched = λ node site found. (nodes policy topology events addresses run node site found).conduct.matched;
}

pub own_ways : RunsHaveNodes → WaysAreOwn → (policy : Policy) (topology : Topology) (events : List Event) → IsRun policy topology events → HasAddresses topology
    → IsWhole (past_of policy topology events) → HasOwnWays (past_of policy topology events)
own_ways nodes ways policy topology events run addresses w = ways policy topology events (is_kept nodes policy topology events run addresses w.world) w.places

-- what else the reading takes
pub record Reads : Type 0 where
  pub nodes : RunsHaveNodes
  pub ways : WaysAreOwn
  pub owned : LabelsAreOwned
  pub ordered : WaysAreInOrder
  pub copies : CopiesAreInOrder
  pub frames : ChainsAreTheirFrames
  pub unused : BindsUnusedInRuns
  pub binds : EachBindIsUnused
  pub once : (policy : Policy) (topology : Topology) (events : List Event) → HasPacketsOnce (past_of policy topology events)
      → HasFatesOnce (past_of policy topology events)
  pub causes : (policy : Policy) (topology : Topology) (events : List Event) → IsRun policy topology events
      → IsTame (past_of policy topology events).records
      → ((before after : List Event) → events ≡ before ++ after → IsWorld (past_of policy topology before)) → HasCauses policy topology events
  pub set : IsSetInRuns
  pub ends : EndsInRuns
  pub silent : SendsNoMoreInRuns
  pub led_back : IsLedBackInRuns
  pub by_reset : IsEndedByResetInRuns
  pub tables : TablesAreTold
  pub losses : LossesAreTrue
  pub journeys : FatesAreJourneys
  pub unbound : NothingIsBound
  pub carries : CarriesEnd

module _ (r : Reads) (whole : HoldsInRuns IsWhole) (policy : Policy) (topology : Topology) (addresses : HasAddresses topology) where
  -- of a front
  whole_at : (events before after : List Event) → IsRun policy topology events → IsTame (past_of policy topology events).records → events ≡ before ++ after
      → IsWhole (past_of policy topology before)
  whole_at = holds_at policy topology addresses IsWhole whole

  routed : (events : List Event) → IsRun policy topology events → Headline policy topology events
  routed events run = record {
    fronts = λ before after split tame.
        let run = front_run policy topology before after (subst (IsRun policy topology) split run) in
        let w = whole policy topology before run addresses tame in
        record {
          deliveries = w.world.packets.true_fates;
          once = r.once policy topology before w.world.packets;
          labels = r.binds policy topology before
              (λ front rest event is. r.unused policy topology front event (comes_at policy topology addresses before front rest event run tame is) (whole_at before front (event ∷ rest) run tame is));
          fates = fates_whole (past_of policy topology before) w.world.packets;
        };
  }

  owned_fronts : (events : List Event) → IsRun policy topology events → InFronts policy topology events AreOwned
  owned_fronts events run before after split tame =
      let run = front_run policy topology before after (subst (IsRun policy topology) split run) in
      let w = whole policy topology before run addresses tame in
      r.owned (past_of policy topology before) (is_kept r.nodes policy topology before run addresses w.world) (own_ways r.nodes r.ways policy topology before run addresses w)

  ordered_fronts : (events : List Event) → IsRun policy topology events → InFronts policy topology events AreInOrder
  ordered_fronts events run before after split tame =
      let run = front_run policy topology before after (subst (IsRun policy topology) split run) in
      let w = whole policy topology before run addresses tame in
      r.ordered (past_of policy topology before) (is_kept r.nodes policy topology before run addresses w.world) (own_ways r.nodes r.ways policy topology before run addresses w)

  copies_fronts : (events : List Event) → IsRun policy topology events → InFronts policy topology events AreAllCopiesInOrder
  copies_fronts events run before after split tame =
      let run = front_run policy topology before after (subst (IsRun policy topology) split run) in
      let w = whole policy topology before run addresses tame in
      r.copies (past_of policy topology before) (is_kept r.nodes policy topology before run addresses w.world)

  in_harmony : (events : List Event) → IsRun policy topology events → InFronts policy topology events IsInHarmony
  in_harmony events run before after split tame =
      (whole policy topology before (front_run policy topology before after (subst (IsRun policy topology) split run)) addresses tame).harmony

  on_journeys : (events : List Event) → IsRun policy topology events → (before after : List Event) → events ≡ before ++ after → ChangesNoRoute before
      → IsTame (past_of policy topology before).records → AreJourneys (past_of policy topology before)
  on_journeys events run before after split steady tame =
      r.journeys policy topology before steady
      (whole policy topology before (front_run policy topology before after (subst (IsRun policy topology) split run)) addresses tame).world.packets.true_fates

  caused : (events : List Event) → IsRun policy topology events → (before after : List Event) → events ≡ before ++ after
      → IsTame (past_of policy topology before).records → HasCauses policy topology before
  caused events run before after split tame =
      let run = front_run policy topology before after (subst (IsRun policy topology) split run) in
      r.causes policy topology before run tame (λ front rest is. (whole_at before front rest run tame is).world)

  lifetimes_end : (events : List Event) → LifetimesEnd policy topology events
  lifetimes_end events = record {
    set = λ before after event split node port label lifetime sets. r.set policy topology before event node port label lifetime sets;
    ends = λ before after split node port label lifetime ticks counted done. r.ends policy topology node port label lifetime _ ticks counted done;
    silent = λ before after event split node port label lifetime ticks counted done conduct unset.
        r.silent policy topology node port label lifetime _ ticks counted done event conduct unset;
    led_back = λ before after node split port label lifetime ticks counted done reaches grant input found lent.
        r.led_back policy topology node port label lifetime _ ticks counted done reaches grant input found lent;
    by_reset = λ before after split node port controller found. r.by_reset policy topology before node port controller found;
  }

  pub run_is_true : (events : List Event) → IsRun policy topology events → IsTrueRun policy topology events
  run_is_true events run = record {
    routing = routed events run;
    owned = owned_fronts events run;
    ordered = ordered_fronts events run;
    copies = copies_fronts events run;
    frames = λ before after event split tame. r.frames policy topology before event tame;
    harmony = in_harmony events run;
    causes = caused events run;
    lifetimes = lifetimes_end events;
    tables = r.tables policy topology events;
    losses = r.losses policy topology events;
    journeys = on_journeys events run;
    quiet = λ before after split. is_quiet r.carries r.unused whole policy topology addresses before;
    packets_end = λ before after split. packets_end r.carries r.unused whole policy topology addresses before;
    unbound = r.unbound policy topology events run;
  }

pub runs_are_true : HoldsInRuns IsWhole → Reads → (policy : Policy) (topology : Topology) (events : List Event) → IsRun policy topology events → HasAddresses topology
    → IsTrueRun policy topology events
runs_are_true whole r policy topology events run addresses = run_is_true r whole policy topology addresses events run
