use Rattle.std.proofs.Common.{◌≡◌, ◌++◌, length}
use Rattle.show_text.specs.Port.{count_lines}
use Rattle.tell_show.proofs.Counts.{pair_lines}
use Rattle.tell_show.proofs.labels.write_counts.Given as goal

abbrev pub invariant-loop-flow : goal.invariant-loop-flow
invariant-loop-flow l = l.out ++ pair_lines l.names l.node l.port l.flows ≡ l.fn.out ++ count_lines l.names l.node l.port l.counted.counts

abbrev pub decreases-loop-flow : goal.decreases-loop-flow
decreases-loop-flow l = length l.flows
