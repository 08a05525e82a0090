use Rattle.document_rules.proofs.Steps.{IsAlong}
use Rattle.document_rules.proofs.reading.read_rules.Given as goal

abbrev pub invariant-loop-place : goal.invariant-loop-place
invariant-loop-place l = IsAlong l.lines l.place l.read
