use Rattle.std.proofs.Common.{None, sym, arith}
use Rattle.cell_pool.proofs.Fills.{set-filled, set-unwritten}
use Rattle.fabric.proofs.row.Row.clear.Goals as goal

pub returns-then-column-len : goal.returns-then-column-len
returns-then-column-len c =
    rw (← c.self.view_is, c.new.ensures) (sym (set-filled c.self.inside.columns None c.self.inside.entries.items c.args.column None (omega (arith, c.len.ensures, c.if-column-len.true))))

pub returns-else-column-len : goal.returns-else-column-len
returns-else-column-len c =
    rw (← c.self.view_is) (sym (set-unwritten c.self.inside.columns None c.self.inside.entries.items c.args.column (omega (arith, c.len.ensures, c.if-column-len.false))))
