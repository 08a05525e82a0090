use Rattle.lab_text.proofs.Fronts.{begun, here, next, on_err, said}
use Rattle.record_text.proofs.write.write_port_label.Goals as goal

pub returns-in_err-write_port-clause-err : goal.returns-in_err-write_port-clause-err
returns-in_err-write_port-clause-err c =
    said c.from_residual.result _ (begun _ _ _ c.in_err-write_port.ensures.err)

pub returns-in_err-text-clause-err : goal.returns-in_err-text-clause-err
returns-in_err-text-clause-err c =
    said c.from_residual-in_err-text.result _ (next _ _ _ _ _ c.in_ok-write_port.ensures.ok (begun _ _ _ c.in_err-text.ensures.err))

pub returns-in_err-write_label-clause-err : goal.returns-in_err-write_label-clause-err
returns-in_err-write_label-clause-err c =
    said c.from_residual-in_err-write_label.result _ (next _ _ _ _ _ c.in_ok-write_port.ensures.ok (next _ _ _ _ _ c.in_ok-text.ensures.ok (here _ _ _ _ c.in_err-write_label.ensures.err)))

pub returns-clause-err : goal.returns-clause-err
returns-clause-err c =
    on_err c.text-2.result _ _ (λ h. next _ _ _ _ _ c.in_ok-write_port.ensures.ok (next _ _ _ _ _ c.in_ok-text.ensures.ok (next _ _ _ _ _ c.in_ok-write_label.ensures.ok (begun _ _ _ h)))) c.text-2.ensures.err
