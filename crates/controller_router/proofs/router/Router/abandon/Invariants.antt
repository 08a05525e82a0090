use Rattle.std.proofs.Common.{length}
use Rattle.controller_router.proofs.router.Router.abandon.Given as goal

abbrev pub decreases-loop-link : goal.decreases-loop-link
decreases-loop-link g l = length l.links.items
