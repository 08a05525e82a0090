use Rattle.grant_table.specs.Held.{shown}
use Rattle.grant_table.proofs.Apart.{found_at}
use Rattle.grant_table.proofs.OfLabels.{label_at}
use Rattle.grant_table.proofs.table.GrantTable.at.Goals as goal

pub returns-clause-found : goal.returns-clause-found
returns-clause-found c =
    rw (← c.self.view_is, c.get.ensures, c.label.ensures)
    (found_at c.self.inside.grants c.args.place (shown c.get.result.now) c.self.invariant.apart c.get.ensures)

pub returns-clause-number : goal.returns-clause-number
returns-clause-number c =
    rw c.label.ensures (label_at c.self.inside.grants c.args.place (shown c.get.result.now) c.self.invariant.labels c.get.ensures)
