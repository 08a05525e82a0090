use Rattle.std.proofs.Common.{◌≡◌, map, take}
use Rattle.world.proofs.opening.ports_of.Given as goal

abbrev pub invariant-loop-range : goal.invariant-loop-range
invariant-loop-range l = l.ports.items ≡ map (λ range. range.port) (take l.range-index l.ranges)
