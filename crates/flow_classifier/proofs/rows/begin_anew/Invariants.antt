use Rattle.flow_classifier.proofs.LastTurned.{AreTurned}
use Rattle.flow_classifier.proofs.rows.begin_anew.Given as goal

abbrev pub invariant-loop-row : goal.invariant-loop-row
invariant-loop-row l = AreTurned l.ticks l._row l.initial.rows l.rows
