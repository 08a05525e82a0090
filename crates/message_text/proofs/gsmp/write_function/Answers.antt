use Rattle.std.proofs.Common.{ap}
use Rattle.message_text.specs.Fields.{named_number}
use Rattle.lab_text.proofs.Fronts.{as_text, here_as, next_as, on_err, said}
use Rattle.message_text.proofs.gsmp.write_function.Goals as goal

pub returns-in_err-write_number-clause-err : goal.returns-in_err-write_number-clause-err
returns-in_err-write_number-clause-err c =
    said c.from_residual.result _ (here_as _ _ _ _ _ (ap (named_number _) c.from.ensures) c.in_err-write_number.ensures.err)

pub returns-in_err-write_number-2-clause-err : goal.returns-in_err-write_number-2-clause-err
returns-in_err-write_number-2-clause-err c =
    said c.from_residual-in_err-write_number-2.result _ (next_as _ _ _ _ _ _ (ap (named_number _) c.from.ensures) c.in_ok-write_number.ensures.ok (here_as _ _ _ _ _ (ap (named_number _) c.from-2.ensures) c.in_err-write_number-2.ensures.err))

pub returns-clause-err : goal.returns-clause-err
returns-clause-err c =
    on_err c.write_number-3.result _ _ (λ h. next_as _ _ _ _ _ _ (ap (named_number _) c.from.ensures) c.in_ok-write_number.ensures.ok (next_as _ _ _ _ _ _ (ap (named_number _) c.from-2.ensures) c.in_ok-write_number-2.ensures.ok (as_text _ _ _ _ (ap (named_number _) c.from-3.ensures) h))) c.write_number-3.ensures.err
