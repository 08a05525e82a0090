use Rattle.std.proofs.Common.{List, subst}
use Rattle.cell_pool.specs.Region.{Line}
use Rattle.cell_pool.specs.Shares.{ShareRegion}
use Rattle.cell_pool.proofs.Lines.{apart_last, line_last, share_drained, share_front}
use Rattle.fabric.proofs.fabric.Fabric.abandon.Goals as goal

pub drain-requires : goal.drain-requires
drain-requires c =
    line_last c.loop-queue.pool c.pop.new.self.items c.in-Some.queue
    (subst (λ (ls : List Line). ShareRegion c.loop-queue.pool ls) c.in-Some.ensures.items c.loop-queue.invariant)

pub loop-queue-preserved : goal.loop-queue-preserved
loop-queue-preserved c =
    let share = subst (λ (ls : List Line). ShareRegion c.loop-queue.pool ls) c.in-Some.ensures.items c.loop-queue.invariant in
    share_drained c.loop-queue.pool c.drain.new.pool c.pop.new.self.items c.in-Some.queue
    (share_front c.loop-queue.pool c.pop.new.self.items c.in-Some.queue share) (apart_last c.loop-queue.pool c.pop.new.self.items c.in-Some.queue share) c.drain.ensures
