use Rattle.message_text.specs.Gsmp.{gsmp_text}
use Rattle.lab_text.proofs.Fronts.{begun, here, next, next_as, on_err, said}
use Rattle.message_text.proofs.gsmp.write_gsmp.Goals as goal

pub returns-in_err-text-clause-err : goal.returns-in_err-text-clause-err
unfolding gsmp_text
returns-in_err-text-clause-err c =
    said c.from_residual.result _ (begun _ _ _ c.in_err-text.ensures.err)

pub returns-in_err-write_head_or_none-clause-err : goal.returns-in_err-write_head_or_none-clause-err
unfolding gsmp_text
returns-in_err-write_head_or_none-clause-err c =
    said c.from_residual-in_err-write_head_or_none.result _ (next_as _ _ _ _ _ _ (c.word_of.ensures) c.in_ok-text.ensures.ok (here _ _ _ _ c.in_err-write_head_or_none.ensures.err))

pub returns-clause-err : goal.returns-clause-err
unfolding gsmp_text
returns-clause-err c =
    on_err c.write_fields.result _ _ (λ h. next_as _ _ _ _ _ _ (c.word_of.ensures) c.in_ok-text.ensures.ok (next _ _ _ _ _ c.in_ok-write_head_or_none.ensures.ok (h))) c.write_fields.ensures.err
