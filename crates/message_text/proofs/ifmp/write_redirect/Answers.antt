use Rattle.std.proofs.Common.{ap}
use Rattle.message_text.specs.Fields.{named_number}
use Rattle.lab_text.proofs.Fronts.{here, here_as, next, next_as, on_err, said}
use Rattle.message_text.proofs.ifmp.write_redirect.Goals as goal

pub returns-in_err-write_head-clause-err : goal.returns-in_err-write_head-clause-err
returns-in_err-write_head-clause-err c =
    said c.from_residual.result _ (here _ _ _ _ c.in_err-write_head.ensures.err)

pub returns-in_err-write_number-clause-err : goal.returns-in_err-write_number-clause-err
returns-in_err-write_number-clause-err c =
    said c.from_residual-in_err-write_number.result _ (next _ _ _ _ _ c.in_ok-write_head.ensures.ok (here_as _ _ _ _ _ (ap (named_number _) c.from.ensures) c.in_err-write_number.ensures.err))

pub returns-clause-err : goal.returns-clause-err
returns-clause-err c =
    on_err c.write_use.result _ _ (λ h. next _ _ _ _ _ c.in_ok-write_head.ensures.ok (next_as _ _ _ _ _ _ (ap (named_number _) c.from.ensures) c.in_ok-write_number.ensures.ok (h))) c.write_use.ensures.err
