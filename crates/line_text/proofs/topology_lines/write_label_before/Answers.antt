use Rattle.lab_text.proofs.Fronts.{begun, here, next, on_err, said}
use Rattle.line_text.proofs.topology_lines.write_label_before.Goals as goal

pub returns-in_err-write_label-clause-err : goal.returns-in_err-write_label-clause-err
returns-in_err-write_label-clause-err c =
    said c.from_residual.result _ (here _ _ _ _ c.in_err-write_label.ensures.err)

pub returns-clause-err : goal.returns-clause-err
returns-clause-err c =
    on_err c.text.result _ _ (λ h. next _ _ _ _ _ c.in_ok-write_label.ensures.ok (begun _ _ _ h)) c.text.ensures.err
