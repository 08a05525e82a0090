use Rattle.std.proofs.Common.{◌≡◌, ℕ, ◌+◌, ◌-◌, ◌<◌, ◌≤◌, None, length}
use Rattle.std.specs.Vec.{vec_capacity}
use Rattle.cell_pool.specs.Room.{filled}
use Rattle.fabric.proofs.row.write_up_to.Given as goal

abbrev pub invariant-loop-entries : goal.invariant-loop-entries
invariant-loop-entries l = record {
  few : (n : ℕ) → l.column < n → length l.initial.entries.items ≤ n → length l.entries.items ≤ n;
  same : (n : ℕ) → l.column < n → filled n None l.entries.items ≡ filled n None l.initial.entries.items;
  room : vec_capacity l.initial.entries ≤ vec_capacity l.entries;
}

abbrev pub decreases-loop-entries : goal.decreases-loop-entries
decreases-loop-entries l = l.column + 1 - length l.entries.items
