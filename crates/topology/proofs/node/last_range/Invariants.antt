use Rattle.std.proofs.Common.{◌≡◌, ◌==◌, take, reverse}
use Rattle.std.specs.List.{find}
use Rattle.topology.proofs.node.last_range.Given as goal

-- the last one so far
abbrev pub invariant-loop-range : goal.invariant-loop-range
invariant-loop-range l = l.last ≡ find (λ range. range.port.0 == l.port.0) (reverse (take l.range-index l.ranges))
