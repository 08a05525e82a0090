use Rattle.std.proofs.Common.{length}
use Rattle.port_labels.proofs.places.Places.abandon.Given as goal

abbrev pub decreases-loop-place : goal.decreases-loop-place
decreases-loop-place l = length l.held.items
