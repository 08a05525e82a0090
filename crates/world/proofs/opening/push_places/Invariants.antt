use Rattle.std.proofs.Common.{◌≡◌, ◌++◌, take}
use Rattle.world.specs.Opening.{places_of}
use Rattle.world.proofs.opening.push_places.Given as goal

abbrev pub invariant-loop-range : goal.invariant-loop-range
invariant-loop-range l = l.round.items ≡ l.fn.round.items ++ places_of l.node (take l.range-index l.ranges)
