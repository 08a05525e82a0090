use Rattle.std.proofs.Common.{◌≡◌, None, get_or, sym}
use Rattle.cell_pool.proofs.Fills.{get_or-filled, set-filled}
use Rattle.fabric.proofs.row.Row.pass.Goals as goal

pub returns-clause-after : goal.returns-clause-after
returns-clause-after c =
    let read : c.in_ok-entry.entry.now ≡ get_or c.self.inside.entries.items c.args.column None = c.in_ok-entry.ensures.item.3.1 None in
    rw (← c.self.view_is, get_or-filled c.self.inside.columns None c.self.inside.entries.items c.args.column, ← read, ← c.pass.ensures.after)
    (sym (set-filled c.self.inside.columns None c.self.inside.entries.items c.args.column c.pass.new.self c.in_ok-entry.ensures.item.3.0))
