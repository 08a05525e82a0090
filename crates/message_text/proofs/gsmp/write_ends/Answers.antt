use Rattle.std.proofs.Common.{ap}
use Rattle.message_text.specs.Fields.{named_number}
use Rattle.message_text.specs.Gsmp.{ends_text}
use Rattle.lab_text.proofs.Fronts.{here, here_as, next, next_as, on_err, said}
use Rattle.message_text.proofs.gsmp.write_ends.Goals as goal

pub returns-in_err-write_number-clause-err : goal.returns-in_err-write_number-clause-err
unfolding ends_text
returns-in_err-write_number-clause-err c =
    said c.from_residual.result _ (here_as _ _ _ _ _ (ap (named_number _) c.from.ensures) c.in_err-write_number.ensures.err)

pub returns-in_err-write_end-clause-err : goal.returns-in_err-write_end-clause-err
unfolding ends_text
returns-in_err-write_end-clause-err c =
    said c.from_residual-in_err-write_end.result _ (next_as _ _ _ _ _ _ (ap (named_number _) c.from.ensures) c.in_ok-write_number.ensures.ok (here _ _ _ _ c.in_err-write_end.ensures.err))

pub returns-clause-err : goal.returns-clause-err
unfolding ends_text
returns-clause-err c =
    on_err c.write_end-2.result _ _ (λ h. next_as _ _ _ _ _ _ (ap (named_number _) c.from.ensures) c.in_ok-write_number.ensures.ok (next _ _ _ _ _ c.in_ok-write_end.ensures.ok (h))) c.write_end-2.ensures.err
