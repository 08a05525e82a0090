use Rattle.law_branch_line.proofs.Reached.{first_reached, next_reached}
use Rattle.law_branch_line.proofs.reached_lines.Goals as goal

pub returns : goal.returns
returns c = record { first = first_reached; next = next_reached }
