-- Links wake in every run

use Rattle.std.specs.Prelude.{List}
use Rattle.world_model.specs.Words.{Policy, Topology, IsRun}
use Rattle.world_model.specs.network_model.declared.event.Event.{Event}
use Rattle.law_link_nodes.specs.law_run_facts.law_world_views.Fronts.{HasAddresses}
use Rattle.live_model.specs.Links.{LinksWake}
use Rattle.law_link_woken.specs.Given.{Given}

abbrev pub RunsWakeLinks : Type 0
RunsWakeLinks = (policy : Policy) (topology : Topology) (events : List Event) → IsRun policy topology events → HasAddresses topology
    → LinksWake policy topology events

abbrev pub GivenWakesLinks : Type 0
GivenWakesLinks = Given → RunsWakeLinks
