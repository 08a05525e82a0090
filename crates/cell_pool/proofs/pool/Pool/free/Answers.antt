use Rattle.std.proofs.Common.{◌≤◌, length, arith}
use Rattle.cell_pool.proofs.Stores.{few_returned, length-free, others_stored}
use Rattle.cell_pool.proofs.pool.Pool.free.Goals as goal

pub overflow_add-result : goal.overflow_add-result
overflow_add-result c =
    let few : c.self.inside.returned ≤ length c.self.inside.cells.items = few_returned c.self.inside.size c.self.inside.cells.items c.self.inside.next.items c.self.inside.back.items c.self.inside.head c.self.inside.returned c.self.invariant.within c.self.invariant.distinct c.self.invariant.below in
    omega (arith, few, c.self.invariant.within)

pub returns-clause-free : goal.returns-clause-free
returns-clause-free c = rw (← c.self.view_is) (omega (arith, length-free c.self.inside.size c.self.inside.cells.items c.self.inside.next.items c.self.inside.back.items c.self.inside.head c.self.inside.returned c.self.invariant.within, c.len.ensures))

pub returns-clause-others_out : goal.returns-clause-others_out
returns-clause-others_out c =
    rw (← c.self.view_is) (omega (arith, length-free c.self.inside.size c.self.inside.cells.items c.self.inside.next.items c.self.inside.back.items c.self.inside.head c.self.inside.returned c.self.invariant.within, others_stored c.self.inside.size c.self.inside.cells.items c.self.inside.next.items c.self.inside.back.items c.self.inside.head c.self.inside.returned c.self.invariant.within c.self.invariant.distinct c.self.invariant.below, c.len.ensures))
