use Rattle.std.proofs.Common.{◌≡◌, map, take}
use Rattle.gsmp_wire.specs.Range.{FitsRows}
use Rattle.world_model.specs.Answers.{port_row}
use Rattle.gsmp_switch.proofs.answer.rows_of.Given as goal

abbrev pub invariant-loop-state : goal.invariant-loop-state
invariant-loop-state l = record {
  rows : l.rows ≡ map port_row (take l.state-index l.ports);
  fits : FitsRows l.rows;
}
