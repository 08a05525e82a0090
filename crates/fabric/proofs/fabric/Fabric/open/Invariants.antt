use Rattle.std.proofs.Common.{◌≡◌, ℕ, ◌-◌, ◌<◌, ◌≤◌, length, get_or}
use Rattle.std.specs.Vec.{vec_capacity}
use Rattle.cell_pool.specs.Region.{Region, Line, len_of, IsLine}
use Rattle.fabric.proofs.fabric.Fabric.open.Given as goal

abbrev pub invariant-loop-queues : goal.invariant-loop-queues
invariant-loop-queues l = record {
  few : length l.queues.items ≤ 9;
  room : 9 ≤ vec_capacity l.queues;
  lines : (r : Region) (k : ℕ) (d : Line) → k < length l.queues.items → IsLine r (get_or l.queues.items k d);
  empty : (k : ℕ) (d : Line) → k < length l.queues.items → len_of (get_or l.queues.items k d) ≡ 0;
}

abbrev pub decreases-loop-queues : goal.decreases-loop-queues
decreases-loop-queues l = 9 - length l.queues.items
