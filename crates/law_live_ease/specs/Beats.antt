-- Calm beats: ticks, carries, and packets that are sent behind them

use Rattle.std.specs.Prelude.{List, [], ◌∷◌, ◌++◌, ◌≡◌, Some}
use Rattle.world_model.specs.Words.{NodeId, Policy, Topology, World, Site, site_at, world_after, IsRun, past_of, IsTame}
use Rattle.world_model.specs.network_model.declared.event.Event.{Event}
use Rattle.live_model.specs.Beats.{Beat, events_in, IsBeat}
use Rattle.law_live_journeys.specs.law_run_facts.law_world_views.Fronts.{HasAddresses}
use Rattle.law_live_journeys.specs.law_live_hearing.Law.{world_at}
use Rattle.law_live_journeys.specs.law_live_lasting.Law.{HasRoom}
use Rattle.law_live_ease.specs.Law.{IsCalmEvent}

-- *Each event of a stretch is calm* as it comes
abbrev pub AreCalmEvents : Topology → World → List Event → Type 0
AreCalmEvents topology w events = (front rest : List Event) (event : Event) → events ≡ front ++ event ∷ rest → IsCalmEvent topology (world_after topology w front) event

-- *A calm beat*, in a run before the first frame that was forged or passes by chance: as it begins each node has room, its labels are joined
-- or in use, and what its ports say can be written; and each of its events is calm
pub record IsCalmBeat (policy : Policy) (topology : Topology) (before : List Event) (beat : Beat) : Type 0 where
  pub run : IsRun policy topology (before ++ events_in (world_at policy topology before) beat)
  pub addresses : HasAddresses topology
  pub tame : IsTame (past_of policy topology (before ++ events_in (world_at policy topology before) beat)).records
  pub is_beat : IsBeat topology (world_at policy topology before) beat
  pub room : (node : NodeId) (site : Site) → site_at (world_at policy topology before) node ≡ Some site → HasRoom (world_at policy topology before) site
  pub calm : AreCalmEvents topology (world_at policy topology before) (events_in (world_at policy topology before) beat)

-- *Calm beats*, one behind another
abbrev pub AreCalmBeats : Policy → Topology → (before : List Event) → List Beat → Type 0
AreCalmBeats policy topology before [] = Unit {0}
AreCalmBeats policy topology before (beat ∷ beats) =
    IsCalmBeat policy topology before beat × AreCalmBeats policy topology (before ++ events_in (world_at policy topology before) beat) beats

abbrev pub behind_beats : Policy → Topology → (before : List Event) → List Beat → List Event
behind_beats policy topology before [] = before
behind_beats policy topology before (beat ∷ beats) = behind_beats policy topology (before ++ events_in (world_at policy topology before) beat) beats
