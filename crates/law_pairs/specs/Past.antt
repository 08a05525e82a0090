-- Which labels are joined, or may be, behind each event of a run before the first frame that was forged or passed by chance

use Rattle.std.specs.Prelude.{List}
use Rattle.law_causes.specs.world_model.Words.{Policy, Topology, past_of}
use Rattle.law_causes.specs.world_model.network_model.declared.event.Event.{Event}
use Rattle.law_world_views.specs.Between.{IsWorld}
use Rattle.law_world_views.specs.Kept.{Comes, behind}
use Rattle.law_pairs.specs.Events.{HasOldPairs}

-- those that were before it, and at a tick those of the joins that it enters
abbrev pub RunsMakeNoPairs : Type 0
RunsMakeNoPairs = (policy : Policy) (topology : Topology) (before : List Event) (event : Event) → Comes policy topology before event → IsWorld (past_of policy topology before)
    → HasOldPairs (past_of policy topology before).now event (behind policy topology before event).now
