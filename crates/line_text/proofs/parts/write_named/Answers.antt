use Rattle.lab_text.proofs.Fronts.{begun, next, on_err, said}
use Rattle.line_text.proofs.parts.write_named.Goals as goal

pub returns-in_err-text-clause-err : goal.returns-in_err-text-clause-err
returns-in_err-text-clause-err c =
    said c.from_residual.result _ (begun _ _ _ c.in_err-text.ensures.err)

pub returns-in_err-text-2-clause-err : goal.returns-in_err-text-2-clause-err
returns-in_err-text-2-clause-err c =
    said c.from_residual-in_err-text-2.result _ (next _ _ _ _ _ c.in_ok-text.ensures.ok (begun _ _ _ c.in_err-text-2.ensures.err))

pub returns-in_err-octets-clause-err : goal.returns-in_err-octets-clause-err
returns-in_err-octets-clause-err c =
    said c.from_residual-in_err-octets.result _ (next _ _ _ _ _ c.in_ok-text.ensures.ok (next _ _ _ _ _ c.in_ok-text-2.ensures.ok (begun _ _ _ c.in_err-octets.ensures.err)))

pub returns-clause-err : goal.returns-clause-err
returns-clause-err c =
    on_err c.text-3.result _ _ (λ h. next _ _ _ _ _ c.in_ok-text.ensures.ok (next _ _ _ _ _ c.in_ok-text-2.ensures.ok (next _ _ _ _ _ c.in_ok-octets.ensures.ok (begun _ _ _ h)))) c.text-3.ensures.err
