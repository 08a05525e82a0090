use Rattle.std.proofs.Common.{◌≡◌, ◌++◌, take}
use Rattle.console_run.specs.Report.{chance_lines}
use Rattle.console_run.proofs.text.write_chances.Given as goal

abbrev pub invariant-loop-item : goal.invariant-loop-item
invariant-loop-item l = l.out ≡ l.fn.out ++ chance_lines (take l.item-index l.records)
