-- Which losses an event is. The ledger has an entry of each, and no other entry of these causes

use Rattle.std.specs.Prelude.{List}
use Rattle.world_model.specs.Words.{Policy, Topology}
use Rattle.world_model.specs.network_model.declared.event.Event.{Event}
use Rattle.truth_model.specs.Losses.{AreTrueLosses}

-- *The law*: so it is of all events, forged frames among them
abbrev pub LossesAreTrue : Type 0
LossesAreTrue = (policy : Policy) (topology : Topology) (events : List Event) → AreTrueLosses policy topology events
