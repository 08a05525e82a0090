-- Fates where no route changes: each is the packet's journey over the routes that the topology gives its nodes

use Rattle.std.specs.Prelude.{List}
use Rattle.claims_model.specs.world_model.Words.{Policy, Topology, past_of, AreTrueFates}
use Rattle.claims_model.specs.world_model.network_model.declared.event.Event.{Event}
use Rattle.claims_model.specs.Tables.{ChangesNoRoute, AreJourneys}

-- *The law*: so it is whichever events come, where none changes a route and each fate is one that forwarding hop by hop
-- can have made
abbrev pub FatesAreJourneys : Type 0
FatesAreJourneys = (policy : Policy) (topology : Topology) (events : List Event) → ChangesNoRoute events
    → AreTrueFates (past_of policy topology events) → AreJourneys (past_of policy topology events)
