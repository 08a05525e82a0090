use Rattle.std.proofs.Common.{ap}
use Rattle.message_text.specs.Fields.{named_number}
use Rattle.message_text.specs.Gsmp.{row_text}
use Rattle.lab_text.proofs.Fronts.{as_text, begun, here_as, next_as, on_err, said}
use Rattle.message_text.proofs.gsmp.write_row.Goals as goal

pub returns-in_err-write_number-clause-err : goal.returns-in_err-write_number-clause-err
unfolding row_text
returns-in_err-write_number-clause-err c =
    said c.from_residual.result _ (here_as _ _ _ _ _ (ap (named_number _) c.from.ensures) c.in_err-write_number.ensures.err)

pub returns-in_err-write_number-2-clause-err : goal.returns-in_err-write_number-2-clause-err
unfolding row_text
returns-in_err-write_number-2-clause-err c =
    said c.from_residual-in_err-write_number-2.result _ (next_as _ _ _ _ _ _ (ap (named_number _) c.from.ensures) c.in_ok-write_number.ensures.ok (here_as _ _ _ _ _ (ap (named_number _) c.from-2.ensures) c.in_err-write_number-2.ensures.err))

pub returns-in_err-text-clause-err : goal.returns-in_err-text-clause-err
unfolding row_text
returns-in_err-text-clause-err c =
    said c.from_residual-in_err-text.result _ (next_as _ _ _ _ _ _ (ap (named_number _) c.from.ensures) c.in_ok-write_number.ensures.ok (next_as _ _ _ _ _ _ (ap (named_number _) c.from-2.ensures) c.in_ok-write_number-2.ensures.ok (begun _ _ _ c.in_err-text.ensures.err)))

pub returns-in_err-write_number-3-clause-err : goal.returns-in_err-write_number-3-clause-err
unfolding row_text
returns-in_err-write_number-3-clause-err c =
    said c.from_residual-in_err-write_number-3.result _ (next_as _ _ _ _ _ _ (ap (named_number _) c.from.ensures) c.in_ok-write_number.ensures.ok (next_as _ _ _ _ _ _ (ap (named_number _) c.from-2.ensures) c.in_ok-write_number-2.ensures.ok (next_as _ _ _ _ _ _ (c.state_word.ensures) c.in_ok-text.ensures.ok (here_as _ _ _ _ _ (ap (named_number _) c.from-3.ensures) c.in_err-write_number-3.ensures.err))))

pub returns-clause-err : goal.returns-clause-err
unfolding row_text
returns-clause-err c =
    on_err c.write_number-4.result _ _ (λ h. next_as _ _ _ _ _ _ (ap (named_number _) c.from.ensures) c.in_ok-write_number.ensures.ok (next_as _ _ _ _ _ _ (ap (named_number _) c.from-2.ensures) c.in_ok-write_number-2.ensures.ok (next_as _ _ _ _ _ _ (c.state_word.ensures) c.in_ok-text.ensures.ok (next_as _ _ _ _ _ _ (ap (named_number _) c.from-3.ensures) c.in_ok-write_number-3.ensures.ok (as_text _ _ _ _ (ap (named_number _) c.from-4.ensures) h))))) c.write_number-4.ensures.err
