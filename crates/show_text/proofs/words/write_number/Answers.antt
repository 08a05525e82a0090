use Rattle.lab_text.proofs.Fronts.{begun, next, on_err, said}
use Rattle.show_text.proofs.words.write_number.Goals as goal

pub returns-in_err-text-clause-err : goal.returns-in_err-text-clause-err
returns-in_err-text-clause-err c =
    said c.from_residual.result _ (begun _ _ _ c.in_err-text.ensures.err)

pub returns-clause-err : goal.returns-clause-err
returns-clause-err c =
    on_err c.number.result _ _ (λ h. next _ _ _ _ _ c.in_ok-text.ensures.ok (begun _ _ _ h)) c.number.ensures.err
