use Rattle.std.proofs.Common.{◌∙◌, ◌*◌, arith, ap, length-append}
use Rattle.gsmp_wire.specs.Fields.{row_in}
use Rattle.gsmp_wire.proofs.RowSteps.{rows_in-push}
use Rattle.gsmp_wire.proofs.Tails.{tail_is}
use Rattle.gsmp_wire.proofs.read.read_rows.Goals as goal

pub loop-row-preserved : goal.loop-row-preserved
loop-row-preserved c =
    let row = c.row_at.ensures ∙ ap row_in (tail_is (16 * c.loop-row.row) c.args.rows.now) in (
      rw c.push.ensures (rw length-append (omega (arith, c.loop-row.invariant.0))),
      rw c.push.ensures (rows_in-push c.args.count c.loop-row.row c.args.rows.now c.loop-row.read c.row_at.result c.loop-row-test.true row ∙ c.loop-row.invariant.1),
    )
