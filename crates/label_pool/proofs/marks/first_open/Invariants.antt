use Rattle.std.proofs.Common.{◌≡◌, ℕ, ◌<◌, ◌≤◌, false}
use Rattle.label_pool.specs.Marks.{is_open}
use Rattle.label_pool.proofs.marks.first_open.Given as goal

abbrev pub invariant-loop-place : goal.invariant-loop-place
invariant-loop-place l = (k : ℕ) → l.low ≤ k → k < l.place → is_open l.least l.between l.marks k ≡ false
