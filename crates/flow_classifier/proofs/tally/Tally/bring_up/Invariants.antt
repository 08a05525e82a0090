use Rattle.std.proofs.Common.{◌≡◌, ◌++◌, replicate, take}
use Rattle.circular_buffer.specs.Buffer.{buffer}
use Rattle.flow_classifier.proofs.tally.Tally.bring_up.Given as goal

abbrev pub invariant-loop-tick : goal.invariant-loop-tick
invariant-loop-tick l = l.self.packets ≡ buffer (take l.places (replicate l._tick 0 ++ l.initial.self.packets.items)) l.places
