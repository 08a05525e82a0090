use Rattle.grant_table.specs.Held.{shown}
use Rattle.grant_table.proofs.OfLabels.{label_at}
use Rattle.grant_table.proofs.table.GrantTable.view_at.Goals as goal

pub returns-clause-number : goal.returns-clause-number
returns-clause-number c =
    rw c.view.ensures (label_at c.self.inside.grants c.args.place (shown c.get.result.now) c.self.invariant.labels c.get.ensures)
