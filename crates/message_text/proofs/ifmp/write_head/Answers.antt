use Rattle.std.proofs.Common.{ap}
use Rattle.message_text.specs.Fields.{named_number}
use Rattle.message_text.specs.Ifmp.{head_text}
use Rattle.lab_text.proofs.Fronts.{as_text, here, next, on_err, said}
use Rattle.message_text.proofs.ifmp.write_head.Goals as goal

pub returns-in_err-write_between-clause-err : goal.returns-in_err-write_between-clause-err
unfolding head_text
returns-in_err-write_between-clause-err c =
    said c.from_residual.result _ (here _ _ _ _ c.in_err-write_between.ensures.err)

pub returns-clause-err : goal.returns-clause-err
unfolding head_text
returns-clause-err c =
    on_err c.write_number.result _ _ (λ h. next _ _ _ _ _ c.in_ok-write_between.ensures.ok (as_text _ _ _ _ (ap (named_number _) c.from.ensures) h)) c.write_number.ensures.err
