use Rattle.lab_text.proofs.Fronts.{here, next, on_err, said}
use Rattle.message_text.proofs.ifmp.write_reclaim.Goals as goal

pub returns-in_err-write_head-clause-err : goal.returns-in_err-write_head-clause-err
returns-in_err-write_head-clause-err c =
    said c.from_residual.result _ (here _ _ _ _ c.in_err-write_head.ensures.err)

pub returns-clause-err : goal.returns-clause-err
returns-clause-err c =
    on_err c.write_use.result _ _ (λ h. next _ _ _ _ _ c.in_ok-write_head.ensures.ok (h)) c.write_use.ensures.err
