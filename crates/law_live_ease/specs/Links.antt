-- In a network that binds each link binds on behind a carry, and no Delete All comes to a switch

use Rattle.std.specs.Prelude.{◌≡◌, List, Some}
use Rattle.world_model.specs.Words.{Policy, NodeId, Place, Topology, World, next, IsNode, past_of}
use Rattle.world_model.specs.Topology.{peer_of}
use Rattle.world_model.specs.network_model.declared.link.LinkEnd.{LinkEnd}
use Rattle.world_model.specs.network_model.declared.event.Event.{Event}
use Rattle.world_model.specs.network_model.declared.event.Event.TheVariants.{Carry}
use Rattle.law_live_journeys.specs.law_run_facts.law_world_views.Between.{IsWorld}
use Rattle.law_live_journeys.specs.law_run_facts.law_world_views.Kept.{Comes}
use Rattle.law_live_journeys.specs.law_live_hearing.Law.{world_at}
use Rattle.law_live_journeys.specs.law_live_control_links.Law.{CarriesOutNext}
use Rattle.law_live_journeys.specs.law_live_ways.Links.{ComesNone}
use Rattle.law_live_ease.specs.Law.{IsBindingLink, Binds, IsCalmEvent}

-- *Links go on* behind a carry: the two ends of each bind, both its ways are open, and no Delete All is on its way to a switch
pub record LinksGoOn (topology : Topology) (w : World) (place : Place) : Type 0 where
  pub links : (one far : LinkEnd) → peer_of topology one.node one.port ≡ Some far → IsBindingLink topology (next topology w (Carry place)) one far
  pub none : (one far : LinkEnd) → peer_of topology one.node one.port ≡ Some far → ComesNone (next topology w (Carry place)) one.node

-- *So they do* behind each calm carry of a run before the first frame that is forged or passes by chance, where the network binds before
-- it and each switch carries out the request that comes to it next
abbrev pub LinksBindOn : Type 0
LinksBindOn = (policy : Policy) (topology : Topology) (before : List Event) (place : Place) → Comes policy topology before (Carry place)
    → IsWorld (past_of policy topology before) → Binds topology (world_at policy topology before) → IsCalmEvent topology (world_at policy topology before) (Carry place)
    → ((node : NodeId) → IsNode topology node → CarriesOutNext (world_at policy topology before) node)
    → LinksGoOn topology (world_at policy topology before) place
