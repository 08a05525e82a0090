use Rattle.std.proofs.Common.{length}
use Rattle.cell_pool.specs.Shares.{ShareRegion}
use Rattle.controller_link.specs.Store.{lines}
use Rattle.controller_link.proofs.store.Store.abandon.Given as goal

abbrev pub invariant-loop-chain : goal.invariant-loop-chain
invariant-loop-chain l = ShareRegion l.pool (lines l.queue l.chains.items)

abbrev pub decreases-loop-chain : goal.decreases-loop-chain
decreases-loop-chain l = length l.chains.items
