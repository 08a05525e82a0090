use Rattle.std.proofs.Common.{◌<◌, List, Some, None, set, ap, sym, ◌∙◌, arith}
use Rattle.std.specs.Prelude.{Option}
use Rattle.crossbar_model.specs.declared.branch.Branch.{Branch}
use Rattle.cell_pool.proofs.Fills.{length-filled, set-filled}
use Rattle.fabric.proofs.row.Row.set.Goals as goal

pub returns : goal.returns
returns c =
    let within : c.args.column < c.self.inside.columns =
    omega (arith, rw (← c.self.view_is) at c.requires, length-filled c.self.inside.columns None c.self.inside.entries.items c.self.invariant.within) in
    rw (← c.self.view_is, c.new.ensures)
    (sym (set-filled c.self.inside.columns None c.write_up_to.new.entries.items c.args.column (Some c.args.branch) c.write_up_to.ensures.written)
    ∙ ap (λ (xs : List (Option Branch)). set xs c.args.column (Some c.args.branch)) (c.write_up_to.ensures.same c.self.inside.columns within))
