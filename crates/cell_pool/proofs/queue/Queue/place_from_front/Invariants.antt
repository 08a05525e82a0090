use Rattle.std.proofs.Common.{◌≡◌, get_or}
use Rattle.cell_pool.specs.Region.{places}
use Rattle.cell_pool.proofs.queue.Queue.place_from_front.Given as goal

abbrev pub invariant-loop-step : goal.invariant-loop-step
invariant-loop-step l = l.place ≡ get_or (places l.pool l.self) l._step 0
