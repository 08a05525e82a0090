use Rattle.lab_text.proofs.Fronts.{begun, here, next, next_as, on_err, said}
use Rattle.show_text.proofs.node.write_condition.Goals as goal

pub returns-in_err-text-clause-err : goal.returns-in_err-text-clause-err
returns-in_err-text-clause-err c =
    said c.from_residual.result _ (begun _ _ _ c.in_err-text.ensures.err)

pub returns-in_err-text-2-clause-err : goal.returns-in_err-text-2-clause-err
returns-in_err-text-2-clause-err c =
    said c.from_residual-in_err-text-2.result _ (next _ _ _ _ _ c.in_ok-text.ensures.ok (begun _ _ _ c.in_err-text-2.ensures.err))

pub returns-in_err-write_slots-clause-err : goal.returns-in_err-write_slots-clause-err
returns-in_err-write_slots-clause-err c =
    said c.from_residual-in_err-write_slots.result _ (next _ _ _ _ _ c.in_ok-text.ensures.ok (next_as _ _ _ _ _ _ (c.state_word.ensures) c.in_ok-text-2.ensures.ok (here _ _ _ _ c.in_err-write_slots.ensures.err)))

pub returns-clause-err : goal.returns-clause-err
returns-clause-err c =
    on_err c.text-3.result _ _ (λ h. next _ _ _ _ _ c.in_ok-text.ensures.ok (next_as _ _ _ _ _ _ (c.state_word.ensures) c.in_ok-text-2.ensures.ok (next _ _ _ _ _ c.in_ok-write_slots.ensures.ok (begun _ _ _ h)))) c.text-3.ensures.err
