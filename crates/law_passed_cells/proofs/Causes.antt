-- broken frames stand beside their causes, where all is so at each front of a run

use Rattle.std.proofs.Common.{List}
use Rattle.world_model.specs.Words.{Policy, Topology, world_after, past_of}
use Rattle.world_model.specs.network_model.declared.event.Event.{Event}
use Rattle.world_model.specs.World.{opened}
use Rattle.law_fed_worlds.specs.law_world_views.Pairs.{by_branch}
use Rattle.law_fed_worlds.specs.law_world_views.Between.{IsWorld}
use Rattle.law_fed_worlds.specs.Feeding.{IsFedWorld, CausesInRuns}
use Rattle.law_passed_cells.specs.Passed.{BreaksHaveCauses}

fed_world : (policy : Policy) (topology : Topology) (events : List Event) → IsWorld (past_of policy topology events) → IsFedWorld (world_after topology (opened policy topology) events)
fed_world policy topology events world = record {
  copies = λ node site found s cell k copy. (world.shapes node site found).copies s cell k copy;
  feeders = λ node. record {
    once = λ one other output first second on left right. world.once node one other output first second on (by_branch left) (by_branch right);
    passed = λ input output above on e. (world.passed node).branch input output above on e;
  };
}

pub breaks_are_caused : CausesInRuns → BreaksHaveCauses
breaks_are_caused causes policy topology events is tame worlds = causes policy topology events is tame (λ before after e. fed_world policy topology before (worlds before after e))
