use Rattle.std.proofs.Common.{List, ◌<◌, length, get_or, ap, subst}
use Rattle.gsmp_wire.specs.declared.rows.PortRow.{PortRow}
use Rattle.lab_text.proofs.Fronts.{said}
use Rattle.message_text.proofs.Rows.{rows_broke}
use Rattle.message_text.proofs.gsmp.write_rows.Goals as goal

pub returns-in_err-write_row-clause-err : goal.returns-in_err-write_row-clause-err
returns-in_err-write_row-clause-err c =
    let same = c.as_slice-row-items.ensures.rows in
    said c.from_residual.result _ (rows_broke c.args.out.now c.loop-row.out c.write_row.new.out c.args.rows.now c.loop-row.row-index _ _
    (subst (λ (rows : List PortRow). c.loop-row.row-index < length rows) same c.loop-row-test.true)
    (ap (λ (rows : List PortRow). get_or rows c.loop-row.row-index _) same)
    c.loop-row.invariant c.in_err-write_row.ensures.err)
