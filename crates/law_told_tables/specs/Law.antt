-- The table of each node: the routes of the topology, changed by a front of the changes that events told it

use Rattle.std.specs.Prelude.{List}
use Rattle.world_model.specs.Words.{Policy, Topology}
use Rattle.world_model.specs.network_model.declared.event.Event.{Event}
use Rattle.law_causes.specs.law_controller.law_controller_facts.claims_model.Tables.{AreToldTables}

-- *The law*: so it is of all events, forged frames among them
abbrev pub TablesAreTold : Type 0
TablesAreTold = (policy : Policy) (topology : Topology) (events : List Event) → AreToldTables policy topology events
