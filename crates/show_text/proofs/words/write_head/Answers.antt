use Rattle.lab_text.proofs.Fronts.{begun, next, on_err, said}
use Rattle.show_text.proofs.words.write_head.Goals as goal

pub returns-in_err-text-clause-err : goal.returns-in_err-text-clause-err
returns-in_err-text-clause-err c =
    said c.from_residual.result _ (begun _ _ _ c.in_err-text.ensures.err)

pub returns-in_err-write_name-clause-err : goal.returns-in_err-write_name-clause-err
returns-in_err-write_name-clause-err c =
    said c.from_residual-in_err-write_name.result _ (next _ _ _ _ _ c.in_ok-text.ensures.ok (begun _ _ _ c.in_err-write_name.ensures.err))

pub returns-clause-err : goal.returns-clause-err
returns-clause-err c =
    on_err c.text-2.result _ _ (λ h. next _ _ _ _ _ c.in_ok-text.ensures.ok (next _ _ _ _ _ c.in_ok-write_name.ensures.ok (begun _ _ _ h))) c.text-2.ensures.err
