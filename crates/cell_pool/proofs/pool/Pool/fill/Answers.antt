use Rattle.std.proofs.Common.{◌≡◌, ◌<◌, length, get_or, sym, arith}
use Rattle.std.proofs.lemmas.List.{get_or_read}
use Rattle.cell_pool.specs.Steps.{with_channel}
use Rattle.cell_pool.proofs.Stores.{region, length-free, take_returned, take_new, rest_below}
use Rattle.cell_pool.proofs.pool.Pool.fill.Goals as goal

pub returns-then-self-gt0 : goal.returns-then-self-gt0
returns-then-self-gt0 c =
    let below = rest_below c.self.inside.size c.self.inside.cells.items c.self.inside.next.items c.self.inside.back.items c.self.inside.head c.self.inside.returned c.self.invariant.within c.self.invariant.distinct c.self.invariant.below c.if-self-gt0.true in
    let within : c.self.inside.head < length c.self.inside.next.items = omega (arith, below.0, c.self.invariant.as_long) in
    let read : get_or c.self.inside.next.items c.self.inside.head 0 ≡ c.index.result.now = sym (get_or_read c.self.inside.next.items c.self.inside.head c.index.result.now within c.index.ensures 0) in
    rw (← c.self.view_is, ← read, c.with_channel.ensures) (take_returned c.self.inside.size c.self.inside.cells.items c.self.inside.next.items c.self.inside.back.items c.self.inside.head c.self.inside.returned c.self.invariant.within c.self.invariant.distinct c.self.invariant.below (with_channel c.args.cell.now c.args.channel) c.if-self-gt0.true)

pub returns : goal.returns
returns c =
    let place : c.len-place.result ≡ length c.self.inside.cells.items = omega (arith, c.len-place.ensures) in
    let none : c.self.inside.returned ≡ 0 = omega (arith, c.if-self-gt0.false) in
    let some : 0 < length (region c.self.inside).free = rw (← c.self.view_is) at c.requires in
    let low : length c.self.inside.cells.items < c.self.inside.size = omega (arith, none, some, length-free c.self.inside.size c.self.inside.cells.items c.self.inside.next.items c.self.inside.back.items c.self.inside.head c.self.inside.returned c.self.invariant.within) in
    rw (← c.self.view_is, none, place, c.begin.ensures.cells, c.begin.ensures.next, c.begin.ensures.back, c.with_channel-2.ensures)
    (take_new c.self.inside.size c.self.inside.cells.items c.self.inside.next.items c.self.inside.back.items c.self.inside.head (with_channel c.args.cell.now c.args.channel) low c.self.invariant.as_long c.self.invariant.back_as_long)
