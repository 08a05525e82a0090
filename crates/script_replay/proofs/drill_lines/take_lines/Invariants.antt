use Rattle.std.proofs.Common.{length}
use Rattle.script_replay.proofs.DrillTakings.{IsTaking}
use Rattle.script_replay.proofs.drill_lines.take_lines.Given as goal

abbrev pub invariant-loop-line : goal.invariant-loop-line
invariant-loop-line g l =
    IsTaking g.C.NodeController.seen (g.N.PolicyChoice.chosen l.choice) l.drill l.fn.meter l.lines l.replay l.told l.meter

abbrev pub decreases-loop-line : goal.decreases-loop-line
decreases-loop-line g l = length l.lines
