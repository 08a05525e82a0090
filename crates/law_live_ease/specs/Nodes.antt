-- In a network that binds each node goes on so behind a carry, and each switch carries out the request that comes next

use Rattle.std.specs.Prelude.{◌≡◌, List, Some}
use Rattle.world_model.specs.Words.{Policy, NodeId, Place, Topology, World, Site, site_at, next, IsNode, past_of}
use Rattle.world_model.specs.network_model.declared.event.Event.{Event}
use Rattle.world_model.specs.network_model.declared.event.Event.TheVariants.{Carry}
use Rattle.law_live_journeys.specs.law_running_worlds.law_world_views.Between.{IsWorld}
use Rattle.law_live_journeys.specs.law_running_worlds.law_world_views.Kept.{Comes}
use Rattle.law_live_journeys.specs.law_live_hearing.Law.{world_at}
use Rattle.law_live_journeys.specs.law_live_control_links.Law.{CarriesOutNext}
use Rattle.law_live_journeys.specs.law_live_desks.Law.{AreOnTheirWay}
use Rattle.law_live_journeys.specs.law_live_mirrored_worlds.Law.{IsCalmlyMirrored}
use Rattle.law_live_ease.specs.Law.{IsSteadyNode, Binds, IsCalmEvent}

-- *Each node goes on so* behind a carry: it is mirrored, its control link calm, what stands at its desk on its way, and it goes steadily;
-- and at the carry its switch carries out the request that comes next
pub record NodesGoOn (topology : Topology) (w : World) (place : Place) : Type 0 where
  pub carried_out : (node : NodeId) → IsNode topology node → CarriesOutNext w node
  pub nodes : (node : NodeId) → IsNode topology node → IsCalmlyMirrored (next topology w (Carry place)) node
  pub desks : (node : NodeId) → IsNode topology node → AreOnTheirWay (next topology w (Carry place)) node
  pub steady : (node : NodeId) (site : Site) → site_at (next topology w (Carry place)) node ≡ Some site → IsSteadyNode site

-- *So it is in a network that binds*, behind a calm carry of a run before the first frame that was forged or passes by chance
abbrev pub NodesBindOn : Type 0
NodesBindOn = (policy : Policy) (topology : Topology) (before : List Event) (place : Place) → Comes policy topology before (Carry place)
    → IsWorld (past_of policy topology before) → Binds topology (world_at policy topology before)
    → IsCalmEvent topology (world_at policy topology before) (Carry place) → NodesGoOn topology (world_at policy topology before) place
