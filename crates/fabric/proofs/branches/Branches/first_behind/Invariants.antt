use Rattle.std.proofs.Common.{◌≤◌, ◌+◌, ◌*◌}
use Rattle.fabric.proofs.Followings.{IsPassed}
use Rattle.fabric.proofs.branches.Branches.first_behind.Given as goal

abbrev pub invariant-loop-row : goal.invariant-loop-row
invariant-loop-row l = record {
  column : l.from ≤ 15888;
  later : l.place ≤ 15888 * l.row + l.from;
  passed : IsPassed l.self-inside.rows.items l.fn.other l.row l.from;
}
