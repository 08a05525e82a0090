use Rattle.console_run.proofs.Words.{AreTold}
use Rattle.console_run.proofs.text.write_replies.Given as goal

abbrev pub invariant-loop-place : goal.invariant-loop-place
invariant-loop-place l = AreTold l.fn.out l.out l.told l.place l.lab.answers
