use Rattle.std.proofs.Common.{codes}
use Rattle.lab_text.proofs.Fronts.{as_text, begun, here, next, on_err, said}
use Rattle.show_text.proofs.Parts.{number_part}
use Rattle.show_text.proofs.counted.write_count.Goals as goal

pub returns-in_err-text-clause-err : goal.returns-in_err-text-clause-err
returns-in_err-text-clause-err c =
    said c.from_residual.result _ (begun _ _ _ c.in_err-text.ensures.err)

pub returns-in_err-write_at-clause-err : goal.returns-in_err-write_at-clause-err
returns-in_err-write_at-clause-err c =
    said c.from_residual-in_err-write_at.result _ (next _ _ _ _ _ c.in_ok-text.ensures.ok (here _ _ _ _ c.in_err-write_at.ensures.err))

pub returns-in_err-write_number-clause-err : goal.returns-in_err-write_number-clause-err
returns-in_err-write_number-clause-err c =
    said c.from_residual-in_err-write_number.result _ (next _ _ _ _ _ c.in_ok-text.ensures.ok (next _ _ _ _ _ c.in_ok-write_at.ensures.ok (as_text _ _ _ _ (number_part (codes " ") _ c.args.packets (_) c.from.ensures) (here _ _ _ _ c.in_err-write_number.ensures.err))))

pub returns-in_err-text-2-clause-err : goal.returns-in_err-text-2-clause-err
returns-in_err-text-2-clause-err c =
    said c.from_residual-in_err-text-2.result _ (next _ _ _ _ _ c.in_ok-text.ensures.ok (next _ _ _ _ _ c.in_ok-write_at.ensures.ok (as_text _ _ _ _ (number_part (codes " ") _ c.args.packets (_) c.from.ensures) (next _ _ _ _ _ c.in_ok-write_number.ensures.ok (begun _ _ _ c.in_err-text-2.ensures.err)))))

pub returns-in_err-write_flow-clause-err : goal.returns-in_err-write_flow-clause-err
returns-in_err-write_flow-clause-err c =
    said c.from_residual-in_err-write_flow.result _ (next _ _ _ _ _ c.in_ok-text.ensures.ok (next _ _ _ _ _ c.in_ok-write_at.ensures.ok (as_text _ _ _ _ (number_part (codes " ") _ c.args.packets (_) c.from.ensures) (next _ _ _ _ _ c.in_ok-write_number.ensures.ok (next _ _ _ _ _ c.in_ok-text-2.ensures.ok (here _ _ _ _ c.in_err-write_flow.ensures.err))))))

pub returns-clause-err : goal.returns-clause-err
returns-clause-err c =
    on_err c.text-3.result _ _ (λ h. next _ _ _ _ _ c.in_ok-text.ensures.ok (next _ _ _ _ _ c.in_ok-write_at.ensures.ok (as_text _ _ _ _ (number_part (codes " ") _ c.args.packets (_) c.from.ensures) (next _ _ _ _ _ c.in_ok-write_number.ensures.ok (next _ _ _ _ _ c.in_ok-text-2.ensures.ok (next _ _ _ _ _ c.in_ok-write_flow.ensures.ok (begun _ _ _ h))))))) c.text-3.ensures.err
