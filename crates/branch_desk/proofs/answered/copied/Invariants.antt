use Rattle.std.proofs.Common.{◌≡◌, ◌≤◌, take, length}
use Rattle.branch_desk.proofs.answered.copied.Given as goal

abbrev pub invariant-loop-row : goal.invariant-loop-row
invariant-loop-row l = record {
  copied : l.copy ≡ take l.row-index l.rows;
  most : length l.rows ≤ 9;
}
