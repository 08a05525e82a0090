-- What a carry brings a node of a network that binds

use Rattle.std.specs.Prelude.{◌≡◌, List, Some}
use Rattle.world_model.specs.Words.{Policy, NodeId, Up, Topology, Site, site_at, next, IsNode, past_of}
use Rattle.world_model.specs.network_model.declared.event.Event.{Event}
use Rattle.world_model.specs.network_model.declared.event.Event.TheVariants.{Carry}
use Rattle.law_live_journeys.specs.law_run_facts.law_world_views.Between.{IsWorld}
use Rattle.law_live_journeys.specs.law_run_facts.law_world_views.Kept.{Comes}
use Rattle.law_live_journeys.specs.law_live_hearing.Law.{world_at}
use Rattle.law_live_journeys.specs.law_live_asking.Carries.{IsCalmArrival}
use Rattle.law_live_ease.specs.Law.{AreTied, Binds, IsCalmEvent}

-- *What a carry brings a node may come*, in a run before the first frame that is forged or passes by chance, where the network binds and the
-- carry is calm
abbrev pub CarriesMayCome : Type 0
CarriesMayCome = (policy : Policy) (topology : Topology) (before : List Event) (node : NodeId) (site : Site) → Comes policy topology before (Carry (Up node))
    → IsWorld (past_of policy topology before) → Binds topology (world_at policy topology before)
    → IsCalmEvent topology (world_at policy topology before) (Carry (Up node)) → IsNode topology node
    → site_at (world_at policy topology before) node ≡ Some site → IsCalmArrival topology (world_at policy topology before) node site

-- *Its desk and its ports are tied* behind it
abbrev pub CarriesKeepTies : Type 0
CarriesKeepTies = (policy : Policy) (topology : Topology) (before : List Event) (node : NodeId) (site now : Site) → Comes policy topology before (Carry (Up node))
    → IsWorld (past_of policy topology before) → Binds topology (world_at policy topology before)
    → IsCalmEvent topology (world_at policy topology before) (Carry (Up node)) → IsNode topology node
    → site_at (world_at policy topology before) node ≡ Some site → site_at (next topology (world_at policy topology before) (Carry (Up node))) node ≡ Some now
    → AreTied now.controller
