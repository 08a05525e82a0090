-- With a policy that offers nothing no label is ever bound

use Rattle.std.specs.Prelude.{List}
use Rattle.world_model.specs.Words.{Policy, Topology, past_of, IsRun, OffersNothing, BindsNothing}
use Rattle.world_model.specs.network_model.declared.event.Event.{Event}

-- in every run, whatever frames are forged in it or pass by chance
abbrev pub NothingIsBound : Type 0
NothingIsBound = (policy : Policy) (topology : Topology) (events : List Event) → IsRun policy topology events → OffersNothing policy
    → BindsNothing (past_of policy topology events)
