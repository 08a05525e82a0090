-- The two sides of a node's control link are such as the adjacency table leaves them, in every run; so a node of a run at rest wakes
-- behind four beats in peace

use Rattle.std.specs.Prelude.{◌≡◌, ◌≤◌, false, List, [], fold, length, Some}
use Rattle.world_model.specs.Words.{NodeId, Down, Up, is_estab, standing_at, Policy, Topology, World, Site, site_at, queue_at, IsNode, IsRun}
use Rattle.world_model.specs.network_model.declared.event.Event.{Event}
use Rattle.live_model.specs.Beats.{Beat, behind}
use Rattle.law_live_woken.specs.law_run_facts.law_world_views.Fronts.{HasAddresses}
use Rattle.law_live_woken.specs.law_live_hearing.Law.{world_at}
use Rattle.law_live_woken.specs.law_live_waking.Law.{FailsNone}
use Rattle.law_live_woken.specs.law_live_waking.Beats.{IsSuchSide, RestsAt, HasWoken}
use Rattle.law_live_woken.specs.Law.{IsRunOfBeats, AreBeatsInPeace}

-- *Both sides of a node* know a peer just where their states say so, were silent no longer than the limit, and don't wait to be
-- cleared, as ports do
pub record HasSuchSides (site : Site) : Type 0 where
  pub controller : IsSuchSide site.controller.adjacency
  pub switch : IsSuchSide site.switch.adjacency

-- so they are behind any events, whatever was lost, restarted or forged
abbrev pub RunsHaveSuchSides : Type 0
RunsHaveSuchSides = (policy : Policy) (topology : Topology) (events : List Event) (node : NodeId) (site : Site)
    → site_at (world_at policy topology events) node ≡ Some site → HasSuchSides site

-- *Nothing is on its way* between a node's controller and its switch
pub record IsStill (policy : Policy) (topology : Topology) (events : List Event) (node : NodeId) : Type 0 where
  pub within : IsNode topology node
  pub down : queue_at (world_at policy topology events) (Down node) ≡ []
  pub up : queue_at (world_at policy topology events) (Up node) ≡ []

-- *then the node of a run is at rest*
abbrev pub StillNodesRest : Type 0
StillNodesRest = (policy : Policy) (topology : Topology) (events : List Event) (node : NodeId) → IsRun policy topology events
    → IsStill policy topology events node → RestsAt (world_at policy topology events) node

-- *and it wakes* behind four beats in peace: its controller and its switch have met, and so it stays
abbrev pub StillNodesWake : Type 0
StillNodesWake = (policy : Policy) (topology : Topology) (before : List Event) (node : NodeId) (beats : List Beat) → IsRunOfBeats policy topology before beats
    → IsStill policy topology before node → AreBeatsInPeace topology (world_at policy topology before) node beats → 4 ≤ length beats
    → HasWoken (fold (behind topology) (world_at policy topology before) beats) node

-- *No answer tells a failure* where nothing stands at the controller's desk
abbrev pub NothingThatStandsFails : Type 0
NothingThatStandsFails = (w : World) (node : NodeId) (event : Event) → standing_at w node ≡ [] → FailsNone w node event

-- so in a run none does while the controller isn't in Estab with its switch
abbrev pub RequestsFailInEstab : Type 0
RequestsFailInEstab = (policy : Policy) (topology : Topology) (events : List Event) (node : NodeId) (site : Site) (event : Event) → HasAddresses topology
    → IsRun policy topology events → site_at (world_at policy topology events) node ≡ Some site → is_estab site.controller.adjacency.state ≡ false
    → FailsNone (world_at policy topology events) node event
