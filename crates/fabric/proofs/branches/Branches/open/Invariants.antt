use Rattle.std.proofs.Common.{◌≡◌, length}
use Rattle.fabric.proofs.Rows.{AreEmpty}
use Rattle.fabric.proofs.branches.Branches.open.Given as goal

abbrev pub invariant-loop-row : goal.invariant-loop-row
invariant-loop-row l = record {
  count : length l.rows.items ≡ l.row;
  empty : AreEmpty l.ports l.vpis l.rows.items;
}
