use Rattle.std.proofs.Common.{◌<◌, length, arith, length-set}
use Rattle.cell_pool.specs.Places.{NotIn}
use Rattle.cell_pool.specs.Region.{walk, IsOut}
use Rattle.cell_pool.proofs.Stores.{region, out_stored, not_returned, room_to_return, put_stored}
use Rattle.cell_pool.proofs.Walks.{walk-put}
use Rattle.cell_pool.proofs.pool.Pool.put.Goals as goal

pub index_mut-requires : goal.index_mut-requires
index_mut-requires c =
    let out : IsOut (region c.self.inside) c.slot.inside.place = rw (← c.self.view_is, ← c.slot.view_is) at c.requires in
    let low : c.slot.inside.place < length c.self.inside.cells.items = out_stored c.self.inside.size c.self.inside.cells.items c.self.inside.next.items c.self.inside.back.items c.self.inside.head c.self.inside.returned c.self.invariant.within c.slot.inside.place out in
    omega (arith, low, c.self.invariant.as_long)

pub overflow_add-self : goal.overflow_add-self
overflow_add-self c =
    let out : IsOut (region c.self.inside) c.slot.inside.place = rw (← c.self.view_is, ← c.slot.view_is) at c.requires in
    omega (arith, room_to_return c.self.inside.size c.self.inside.cells.items c.self.inside.next.items c.self.inside.back.items c.self.inside.head c.self.inside.returned c.self.invariant.within c.self.invariant.distinct c.self.invariant.below c.slot.inside.place out, c.self.invariant.within)

pub invariant_of-self : goal.invariant_of-self
invariant_of-self c =
    let out : IsOut (region c.self.inside) c.slot.inside.place = rw (← c.self.view_is, ← c.slot.view_is) at c.requires in
    let low : c.slot.inside.place < length c.self.inside.cells.items = out_stored c.self.inside.size c.self.inside.cells.items c.self.inside.next.items c.self.inside.back.items c.self.inside.head c.self.inside.returned c.self.invariant.within c.slot.inside.place out in
    let fresh : NotIn c.slot.inside.place (walk c.self.inside.next.items c.self.inside.head c.self.inside.returned) = not_returned c.self.inside.size c.self.inside.cells.items c.self.inside.next.items c.self.inside.back.items c.self.inside.head c.self.inside.returned c.self.invariant.within c.slot.inside.place out in
    let now = walk-put c.self.inside.next.items c.slot.inside.place c.self.inside.head c.self.inside.returned (omega (arith, low, c.self.invariant.as_long)) fresh in
    record {
      within = c.self.invariant.within;
      as_long = rw (length-set c.self.inside.next.items c.slot.inside.place c.self.inside.head) c.self.invariant.as_long;
      back_as_long = c.self.invariant.back_as_long;
      cells_room = c.self.invariant.cells_room;
      next_room = c.self.invariant.next_room;
      back_room = c.self.invariant.back_room;
      distinct = rw now (fresh, c.self.invariant.distinct);
      below = rw now (low, c.self.invariant.below);
    }

pub returns : goal.returns
returns c =
    let out : IsOut (region c.self.inside) c.slot.inside.place = rw (← c.self.view_is, ← c.slot.view_is) at c.requires in
    rw (← c.self.view_is, ← c.slot.view_is) (put_stored c.self.inside.size c.self.inside.cells.items c.self.inside.next.items c.self.inside.back.items c.self.inside.head c.self.inside.returned c.self.invariant.within c.slot.inside.place c.self.invariant.as_long out)
