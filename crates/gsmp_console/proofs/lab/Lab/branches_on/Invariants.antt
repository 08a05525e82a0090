use Rattle.std.proofs.Common.{◌≡◌, ◌≤◌}
use Rattle.std.specs.Prelude.{count_by}
use Rattle.console_model.specs.Lab.{has_branch, inputs_on}
use Rattle.gsmp_console.proofs.lab.Lab.branches_on.Given as goal

abbrev pub invariant-loop-vci : goal.invariant-loop-vci
invariant-loop-vci l = record {
  counted : l.count ≡ count_by (has_branch l.self.switch) (inputs_on l.vci l.port);
  few : l.count ≤ l.vci;
}
