use Rattle.law_branch_line.proofs.Drawn.{always_drawn}
use Rattle.law_branch_line.proofs.First.{always_first}
use Rattle.law_branch_line.proofs.instances_are_drawn.Goals as goal

pub returns : goal.returns
returns c = record { drawn = always_drawn; first = always_first }
