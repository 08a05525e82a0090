use Rattle.std.proofs.Common.{◌≡◌, ◌+◌, ℕ, get_or}
use Rattle.cell_pool.specs.Region.{places}
use Rattle.cell_pool.proofs.queue.Queue.place_from_end.Given as goal

abbrev pub invariant-loop-step : goal.invariant-loop-step
invariant-loop-step l = (k : ℕ) → k + l._step ≡ l.self.len + l.index → l.place ≡ get_or (places l.pool l.self) k 0
