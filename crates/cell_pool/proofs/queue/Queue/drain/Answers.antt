use Rattle.std.proofs.Common.{◌≡◌, rules}
use Rattle.cell_pool.specs.Region.{len_of}
use Rattle.cell_pool.proofs.Drains.{drain_step, drain_end}
use Rattle.cell_pool.proofs.queue.Queue.drain.Goals as goal

pub loop-slot-preserved : goal.loop-slot-preserved
loop-slot-preserved c =
    drain_step c.args.pool.now c.loop-slot.pool c.put.new.self c.args.self c.loop-slot.self c.pop.new.self c.in-Some.slot c.loop-slot.invariant c.in-Some.ensures.some
    (rw c.pop.ensures.region at c.pop.ensures.threaded) (rw c.pop.ensures.region at c.put.ensures)

pub returns : goal.returns
returns c =
    let none : len_of c.loop-slot.self ≡ 0 = search rules in
    rw c.pop.ensures.region (drain_end c.args.pool.now c.loop-slot.pool c.args.self c.loop-slot.self c.loop-slot.invariant none)
