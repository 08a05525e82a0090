use Rattle.fabric.proofs.Rows.{IsPast}
use Rattle.fabric.proofs.branches.Branches.first_on.Given as goal

abbrev pub invariant-loop-row : goal.invariant-loop-row
invariant-loop-row l = IsPast l.self-inside.rows.items l.fn.port.0 l.row
