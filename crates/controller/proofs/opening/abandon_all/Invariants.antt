use Rattle.std.proofs.Common.{length}
use Rattle.controller.proofs.opening.abandon_all.Given as goal

abbrev pub decreases-loop-engine : goal.decreases-loop-engine
decreases-loop-engine g l = length l.engines.items
