use Rattle.lab_text.proofs.Fronts.{begun, here, next, on_err, said}
use Rattle.show_text.proofs.labels.write_flow_and_join.Goals as goal

pub returns-in_err-text-clause-err : goal.returns-in_err-text-clause-err
returns-in_err-text-clause-err c =
    said c.from_residual.result _ (begun _ _ _ c.in_err-text.ensures.err)

pub returns-in_err-write_flow-clause-err : goal.returns-in_err-write_flow-clause-err
returns-in_err-write_flow-clause-err c =
    said c.from_residual-in_err-write_flow.result _ (next _ _ _ _ _ c.in_ok-text.ensures.ok (here _ _ _ _ c.in_err-write_flow.ensures.err))

pub returns-in_err-write_joined-clause-err : goal.returns-in_err-write_joined-clause-err
returns-in_err-write_joined-clause-err c =
    said c.from_residual-in_err-write_joined.result _ (next _ _ _ _ _ c.in_ok-text.ensures.ok (next _ _ _ _ _ c.in_ok-write_flow.ensures.ok (here _ _ _ _ c.in_err-write_joined.ensures.err)))

pub returns-clause-err : goal.returns-clause-err
returns-clause-err c =
    on_err c.text-2.result _ _ (λ h. next _ _ _ _ _ c.in_ok-text.ensures.ok (next _ _ _ _ _ c.in_ok-write_flow.ensures.ok (next _ _ _ _ _ c.in_ok-write_joined.ensures.ok (begun _ _ _ h)))) c.text-2.ensures.err
