use Rattle.std.proofs.Common.{◌≡◌, ◌+◌, map, take, arith}
use Rattle.std.proofs.lemmas.Grind.{common_steps}
use Rattle.world_model.specs.Answers.{port_row}
use Rattle.gsmp_switch.proofs.Ranges.{rows_fit}
use Rattle.gsmp_switch.proofs.answer.rows_of.Goals as goal

pub loop-state-preserved : goal.loop-state-preserved
loop-state-preserved c =
    let rows : c.push.new.self ≡ map port_row (take (c.loop-state.state-index + 1) c.args.ports.now) = grind (arith, common_steps) in
    record { rows = rows; fits = rw c.push.ensures (rows_fit c.loop-state.rows c.row_of.result c.loop-state.invariant.fits c.row_of.ensures.fits) }
