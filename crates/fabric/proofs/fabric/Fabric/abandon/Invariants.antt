use Rattle.std.proofs.Common.{length}
use Rattle.cell_pool.specs.Shares.{ShareRegion}
use Rattle.fabric.proofs.fabric.Fabric.abandon.Given as goal

abbrev pub invariant-loop-queue : goal.invariant-loop-queue
invariant-loop-queue l = ShareRegion l.pool l.queues.items

abbrev pub decreases-loop-queue : goal.decreases-loop-queue
decreases-loop-queue l = length l.queues.items
