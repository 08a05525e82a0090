-- A node whose controller and switch have met isn't reset in beats in peace: each stays in Estab, under the party that it has

use Rattle.std.specs.Prelude.{◌≡◌, ◌<◌, ◌≤◌, List, [], ◌++◌, fold, length, Some}
use Rattle.world_model.specs.Words.{NodeId, Down, Up, Party, Policy, Topology, World, Site, site_at, queue_at, world_after}
use Rattle.world_model.specs.adjacency_table.Table.{silence_limit}
use Rattle.world_model.specs.network_model.declared.event.Event.{Event}
use Rattle.live_model.specs.Beats.{Beat, behind}
use Rattle.live_model.specs.Met.{HaveMet}
use Rattle.live_model.specs.Waking.{AreBeatsInPeace, events_of}
use Rattle.law_link_names.specs.law_live_hearing.Law.{world_at}
use Rattle.law_link_names.specs.law_live_waking.Beats.{ArePeacefulBeats}
use Rattle.law_link_names.specs.law_live_woken.Law.{IsRunOfBeats}
use Rattle.law_link_names.specs.law_live_rested.Law.{IsStill}

-- *A node's controller and its switch have met* as these parties
pub record IsMetAs (w : World) (node : NodeId) (one other : Party) : Type 0 where
  pub site : Site
  pub found : site_at w node ≡ Some site
  pub met : HaveMet site.controller.adjacency site.switch.adjacency
  pub own : site.controller.adjacency.own ≡ one
  pub switch_own : site.switch.adjacency.own ≡ other

-- and each has heard the other lately, so that neither resets the node at its next tick
pub record HeardLately (w : World) (node : NodeId) (one other : Party) : Type 0 where
  pub is_met : IsMetAs w node one other
  pub silence : is_met.site.controller.adjacency.silence < silence_limit
  pub switch_silence : is_met.site.switch.adjacency.silence < silence_limit

-- *They stay met* all along these events, and behind them
abbrev pub StaysMet : Topology → World → NodeId → (one other : Party) → List Event → Type 0
StaysMet topology w node one other events = (front rest : List Event) → events ≡ front ++ rest → IsMetAs (world_after topology w front) node one other

-- *In beats in peace* they do, where nothing is on its way between the two as the beats begin; and they have heard one another lately behind
-- them again
pub record StaysUp (topology : Topology) (w : World) (node : NodeId) (one other : Party) (beats : List Beat) : Type 0 where
  pub stays : StaysMet topology w node one other (events_of topology w beats)
  pub lately : HeardLately (fold (behind topology) w beats) node one other

abbrev pub NodesStayMet : Type 0
NodesStayMet = (topology : Topology) (w : World) (node : NodeId) (one other : Party) (beats : List Beat) → HeardLately w node one other
    → queue_at w (Down node) ≡ [] → queue_at w (Up node) ≡ [] → ArePeacefulBeats topology w node beats → StaysUp topology w node one other beats

-- so it is in every run
abbrev pub RunsStayMet : Type 0
RunsStayMet = (policy : Policy) (topology : Topology) (before : List Event) (node : NodeId) (one other : Party) (beats : List Beat)
    → IsRunOfBeats policy topology before beats → IsStill policy topology before node → HeardLately (world_at policy topology before) node one other
    → AreBeatsInPeace topology (world_at policy topology before) node beats → StaysUp topology (world_at policy topology before) node one other beats

-- *A node that has woken*, behind four beats in peace, stays so in further ones
pub record HasWokenUp (topology : Topology) (w : World) (node : NodeId) (beats more : List Beat) : Type 0 where
  pub one : Party
  pub other : Party
  pub woken : HeardLately (fold (behind topology) w beats) node one other
  pub up : StaysUp topology (fold (behind topology) w beats) node one other more

abbrev pub WokenNodesStayMet : Type 0
WokenNodesStayMet = (policy : Policy) (topology : Topology) (before : List Event) (node : NodeId) (beats more : List Beat)
    → IsRunOfBeats policy topology before (beats ++ more) → IsStill policy topology before node
    → AreBeatsInPeace topology (world_at policy topology before) node (beats ++ more) → 4 ≤ length beats
    → HasWokenUp topology (world_at policy topology before) node beats more
