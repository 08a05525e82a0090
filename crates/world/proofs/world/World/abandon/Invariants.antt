use Rattle.std.proofs.Common.{length}
use Rattle.world.proofs.world.World.abandon.Given as goal

abbrev pub decreases-loop-site : goal.decreases-loop-site
decreases-loop-site g l = length l.sites.items
