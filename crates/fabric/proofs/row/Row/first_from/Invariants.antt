use Rattle.std.proofs.Common.{◌≡◌, ◌<◌, ◌≤◌, ℕ, None, get_or}
use Rattle.fabric.proofs.row.Row.first_from.Given as goal

abbrev pub invariant-loop-column : goal.invariant-loop-column
invariant-loop-column l = (j : ℕ) → l.from ≤ j → j < l.column → get_or l.self j None ≡ None
