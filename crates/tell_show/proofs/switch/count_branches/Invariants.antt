use Rattle.std.proofs.Common.{◌≡◌, ◌+◌, length}
use Rattle.std.specs.FinMap.{entries}
use Rattle.fabric.proofs.Behind.{branches_behind}
use Rattle.tell_show.proofs.switch.count_branches.Given as goal

abbrev pub invariant-loop-input : goal.invariant-loop-input
invariant-loop-input l = l.count + length (branches_behind l.switch.crossbar.branches l.after) ≡ length (entries l.switch.crossbar.branches)

abbrev pub decreases-loop-input : goal.decreases-loop-input
decreases-loop-input l = length (branches_behind l.switch.crossbar.branches l.after)
