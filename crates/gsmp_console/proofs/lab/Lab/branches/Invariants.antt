use Rattle.std.proofs.Common.{◌≡◌, ◌≤◌, ◌*◌}
use Rattle.std.specs.Prelude.{count_by}
use Rattle.console_model.specs.Lab.{has_branch, inputs_to}
use Rattle.gsmp_console.proofs.lab.Lab.branches.Given as goal

abbrev pub invariant-loop-place : goal.invariant-loop-place
invariant-loop-place l = record {
  counted : l.count ≡ count_by (has_branch l.self.switch) (inputs_to l.place 1024);
  few : l.count ≤ 1024 * l.place;
}
