use Rattle.std.proofs.Common.{ap}
use Rattle.message_text.specs.Fields.{named_number}
use Rattle.message_text.specs.Ifmp.{between}
use Rattle.lab_text.proofs.Fronts.{as_text, begun, here_as, next, next_as, on_err, said}
use Rattle.message_text.proofs.ifmp.write_between.Goals as goal

pub returns-in_err-text-clause-err : goal.returns-in_err-text-clause-err
unfolding between
returns-in_err-text-clause-err c =
    said c.from_residual.result _ (begun _ _ _ c.in_err-text.ensures.err)

pub returns-in_err-write_number-clause-err : goal.returns-in_err-write_number-clause-err
unfolding between
returns-in_err-write_number-clause-err c =
    said c.from_residual-in_err-write_number.result _ (next _ _ _ _ _ c.in_ok-text.ensures.ok (here_as _ _ _ _ _ (ap (named_number _) c.from.ensures) c.in_err-write_number.ensures.err))

pub returns-clause-err : goal.returns-clause-err
unfolding between
returns-clause-err c =
    on_err c.write_number-2.result _ _ (λ h. next _ _ _ _ _ c.in_ok-text.ensures.ok (next_as _ _ _ _ _ _ (ap (named_number _) c.from.ensures) c.in_ok-write_number.ensures.ok (as_text _ _ _ _ (ap (named_number _) c.from-2.ensures) h))) c.write_number-2.ensures.err
