use Rattle.fabric.proofs.Few.{few_branches}
use Rattle.fabric.proofs.branches.Branches.are_few.Goals as goal

pub returns : goal.returns
returns c = rw (← c.self.view_is) (few_branches c.self.inside.rows.items)
