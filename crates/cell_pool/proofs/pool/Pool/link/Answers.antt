use Rattle.std.proofs.Common.{ℕ, ◌<◌, List, ◌++◌, ap, sym, arith, length, length-set}
use Rattle.cell_pool.specs.Region.{IsOut}
use Rattle.cell_pool.specs.Room.{never_taken}
use Rattle.cell_pool.proofs.Fills.{set-filled}
use Rattle.cell_pool.proofs.Stores.{region, out_stored, not_returned}
use Rattle.cell_pool.proofs.Walks.{walk-set}
use Rattle.cell_pool.proofs.pool.Pool.link.Goals as goal

pub index_mut-requires : goal.index_mut-requires
index_mut-requires c =
    let out : IsOut (region c.self.inside) c.args.from = rw (← c.self.view_is) at c.requires.from in
    let low : c.args.from < length c.self.inside.cells.items = out_stored c.self.inside.size c.self.inside.cells.items c.self.inside.next.items c.self.inside.back.items c.self.inside.head c.self.inside.returned c.self.invariant.within c.args.from out in
    omega (arith, low, c.self.invariant.as_long)

pub index_mut-requires-2 : goal.index_mut-requires-2
index_mut-requires-2 c =
    let out : IsOut (region c.self.inside) c.args.to = rw (← c.self.view_is) at c.requires.to in
    let low : c.args.to < length c.self.inside.cells.items = out_stored c.self.inside.size c.self.inside.cells.items c.self.inside.next.items c.self.inside.back.items c.self.inside.head c.self.inside.returned c.self.invariant.within c.args.to out in
    omega (arith, low, c.self.invariant.back_as_long)

pub invariant_of-self : goal.invariant_of-self
invariant_of-self c =
    let out : IsOut (region c.self.inside) c.args.from = rw (← c.self.view_is) at c.requires.from in
    let same = walk-set c.self.inside.next.items c.args.from c.args.to c.self.inside.head c.self.inside.returned (not_returned c.self.inside.size c.self.inside.cells.items c.self.inside.next.items c.self.inside.back.items c.self.inside.head c.self.inside.returned c.self.invariant.within c.args.from out) in
    record {
      within = c.self.invariant.within;
      as_long = rw (length-set c.self.inside.next.items c.args.from c.args.to) c.self.invariant.as_long;
      back_as_long = rw (length-set c.self.inside.back.items c.args.to c.args.from) c.self.invariant.back_as_long;
      cells_room = c.self.invariant.cells_room;
      next_room = c.self.invariant.next_room;
      back_room = c.self.invariant.back_room;
      distinct = rw same c.self.invariant.distinct;
      below = rw same c.self.invariant.below;
    }

pub returns-clause-free : goal.returns-clause-free
returns-clause-free c =
    let out : IsOut (region c.self.inside) c.args.from = rw (← c.self.view_is) at c.requires.from in
    rw (← c.self.view_is) (ap (λ (xs : List ℕ). xs ++ never_taken c.self.inside.size (length c.self.inside.cells.items))
    (walk-set c.self.inside.next.items c.args.from c.args.to c.self.inside.head c.self.inside.returned (not_returned c.self.inside.size c.self.inside.cells.items c.self.inside.next.items c.self.inside.back.items c.self.inside.head c.self.inside.returned c.self.invariant.within c.args.from out)))

pub returns-clause-next : goal.returns-clause-next
returns-clause-next c =
    let out : IsOut (region c.self.inside) c.args.from = rw (← c.self.view_is) at c.requires.from in
    let low : c.args.from < length c.self.inside.cells.items = out_stored c.self.inside.size c.self.inside.cells.items c.self.inside.next.items c.self.inside.back.items c.self.inside.head c.self.inside.returned c.self.invariant.within c.args.from out in
    rw (← c.self.view_is) (sym (set-filled c.self.inside.size 0 c.self.inside.next.items c.args.from c.args.to (omega (arith, low, c.self.invariant.as_long))))

pub returns-clause-back : goal.returns-clause-back
returns-clause-back c =
    let out : IsOut (region c.self.inside) c.args.to = rw (← c.self.view_is) at c.requires.to in
    let low : c.args.to < length c.self.inside.cells.items = out_stored c.self.inside.size c.self.inside.cells.items c.self.inside.next.items c.self.inside.back.items c.self.inside.head c.self.inside.returned c.self.invariant.within c.args.to out in
    rw (← c.self.view_is) (sym (set-filled c.self.inside.size 0 c.self.inside.back.items c.args.to c.args.from (omega (arith, low, c.self.invariant.back_as_long))))
