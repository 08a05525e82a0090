use Rattle.std.proofs.Common.{◌<◌, length, sym, ◌∙◌, arith}
use Rattle.std.proofs.lemmas.List.{get_or_read}
use Rattle.cell_pool.specs.Region.{IsOut, blank}
use Rattle.cell_pool.proofs.Fills.{get_or-filled}
use Rattle.cell_pool.proofs.Stores.{region, out_stored}
use Rattle.cell_pool.proofs.pool.Pool.cell.Goals as goal

pub index-requires : goal.index-requires
index-requires c =
    let out : IsOut (region c.self.inside) c.args.place = rw (← c.self.view_is) at c.requires in
    let low : c.args.place < length c.self.inside.cells.items = out_stored c.self.inside.size c.self.inside.cells.items c.self.inside.next.items c.self.inside.back.items c.self.inside.head c.self.inside.returned c.self.invariant.within c.args.place out in
    omega (arith, low)

pub returns : goal.returns
returns c =
    let out : IsOut (region c.self.inside) c.args.place = rw (← c.self.view_is) at c.requires in
    let low : c.args.place < length c.self.inside.cells.items = out_stored c.self.inside.size c.self.inside.cells.items c.self.inside.next.items c.self.inside.back.items c.self.inside.head c.self.inside.returned c.self.invariant.within c.args.place out in
    rw (← c.self.view_is) (get_or_read c.self.inside.cells.items c.args.place c.index.result.now low c.index.ensures blank
    ∙ sym (get_or-filled c.self.inside.size blank c.self.inside.cells.items c.args.place))
