use Rattle.std.proofs.Common.{◌≡◌, ◌≤◌, ◌++◌}
use Rattle.rule_report.proofs.Counting.{lines_to, count_to}
use Rattle.rule_report.proofs.lines.write_rules.Given as goal

abbrev pub invariant-loop-place : goal.invariant-loop-place
invariant-loop-place l = record {
  written : l.out ≡ l.initial.out ++ lines_to l.read l.place;
  counted : l.count ≡ count_to l.read l.place;
  few : l.count ≤ l.place;
}
