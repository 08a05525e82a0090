use Rattle.grant_table.proofs.OfLabels.{all_for}
use Rattle.grant_table.proofs.table.GrantTable.by_flow.Goals as goal

pub returns-clause-label : goal.returns-clause-label
returns-clause-label c = all_for c.args.flow.now c.self.inside.grants c.first_of.result c.self.invariant.labels c.first_of.ensures
