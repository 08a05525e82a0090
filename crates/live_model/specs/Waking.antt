-- *Waking*: a node whose controller and switch have lost each other finds the way back

use Rattle.std.specs.Prelude.{◌≡◌, ◌≤◌, List, [], ◌∷◌, ◌++◌, fold, length, true, Some}
use Rattle.world_model.specs.Words.{NodeId, Policy, Topology, World, Site, site_at, is_empty, world_after, past_of, IsNode, IsTame}
use Rattle.world_model.specs.network_model.declared.event.Event.{Event}
use Rattle.live_model.specs.Beats.{Beat, events_in, behind, IsBeat}
use Rattle.live_model.specs.Met.{HaveMet}
use Rattle.live_model.specs.Peace.{IsPeaceful}

-- *The events of beats*, one behind another
abbrev pub events_of : Topology → World → List Beat → List Event
events_of topology w [] = []
events_of topology w (beat ∷ beats) = events_in w beat ++ events_of topology (behind topology w beat) beats

-- *Each beat is in peace* at a node, with each of its events
pub record IsBeatInPeace (topology : Topology) (w : World) (node : NodeId) (beat : Beat) : Type 0 where
  pub is_beat : IsBeat topology w beat
  pub peace : (front rest : List Event) (event : Event) → events_in w beat ≡ front ++ event ∷ rest
      → IsPeaceful topology (world_after topology w front) node event

abbrev pub AreBeatsInPeace : Topology → World → NodeId → List Beat → Type 0
AreBeatsInPeace topology w node [] = Unit {0}
AreBeatsInPeace topology w node (beat ∷ beats) = IsBeatInPeace topology w node beat × AreBeatsInPeace topology (behind topology w beat) node beats

-- *It has woken*: its controller and its switch have met
pub record HasWoken (w : World) (node : NodeId) : Type 0 where
  pub site : Site
  pub found : site_at w node ≡ Some site
  pub met : HaveMet site.controller.adjacency site.switch.adjacency

-- *Wherever in a run* no queue has a cell, and four beats or more in peace at a node come next, it has woken behind them, whatever was lost
-- or restarted before; so it is before the first frame that was forged or passed its test by chance
abbrev pub NodesWake : Policy → Topology → List Event → Type 0
NodesWake policy topology events = (before after : List Event) (node : NodeId) (beats : List Beat)
    → events ≡ (before ++ events_of topology (past_of policy topology before).now beats) ++ after
    → IsTame (past_of policy topology (before ++ events_of topology (past_of policy topology before).now beats)).records
    → IsNode topology node → is_empty (past_of policy topology before).now ≡ true → AreBeatsInPeace topology (past_of policy topology before).now node beats
    → 4 ≤ length beats → HasWoken (fold (behind topology) (past_of policy topology before).now beats) node
