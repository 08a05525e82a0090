use Rattle.std.proofs.Common.{◌≡◌, ◌++◌, length}
use Rattle.fabric.proofs.Behind.{branches_behind}
use Rattle.show_text.specs.Switch.{branch_lines}
use Rattle.tell_show.proofs.Branches.{lines_behind}
use Rattle.tell_show.proofs.switch.write_branches.Given as goal

abbrev pub invariant-loop-input : goal.invariant-loop-input
invariant-loop-input l = l.out ++ lines_behind l.names l.node l.switch.crossbar.branches l.after ≡ l.fn.out ++ branch_lines l.names l.node l.switch.crossbar.branches

abbrev pub decreases-loop-input : goal.decreases-loop-input
decreases-loop-input l = length (branches_behind l.switch.crossbar.branches l.after)
