-- In a run a node's controller and its switch have met behind four beats in peace

use Rattle.std.specs.Prelude.{◌≤◌, List, ◌++◌, fold, length}
use Rattle.world_model.specs.Words.{NodeId, Policy, Topology, past_of, IsRun, IsTame}
use Rattle.world_model.specs.network_model.declared.event.Event.{Event}
use Rattle.live_model.specs.Beats.{Beat, behind}
pub use Rattle.live_model.specs.Waking.{AreBeatsInPeace, HasWoken, IsBeatInPeace, events_of}
use Rattle.law_live_tables.specs.law_run_facts.law_world_views.Fronts.{HasAddresses}
use Rattle.law_live_tables.specs.law_live_hearing.Law.{world_at}
use Rattle.law_live_tables.specs.law_live_waking.Beats.{RestsAt}

-- *A run of beats* before the first frame that was forged or passes its test by chance
pub record IsRunOfBeats (policy : Policy) (topology : Topology) (before : List Event) (beats : List Beat) : Type 0 where
  pub run : IsRun policy topology (before ++ events_of topology (world_at policy topology before) beats)
  pub addresses : HasAddresses topology
  pub tame : IsTame (past_of policy topology (before ++ events_of topology (world_at policy topology before) beats)).records

-- *Behind four of them* both have met, and so it stays
abbrev pub RunsWake : Type 0
RunsWake = (policy : Policy) (topology : Topology) (before : List Event) (node : NodeId) (beats : List Beat) → IsRunOfBeats policy topology before beats
    → RestsAt (world_at policy topology before) node → AreBeatsInPeace topology (world_at policy topology before) node beats → 4 ≤ length beats
    → HasWoken (fold (behind topology) (world_at policy topology before) beats) node
