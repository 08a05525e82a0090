use Rattle.lab_text.proofs.Fronts.{here, next, on_err, said}
use Rattle.message_text.proofs.gsmp.write_move.Goals as goal

pub returns-in_err-write_ends-clause-err : goal.returns-in_err-write_ends-clause-err
returns-in_err-write_ends-clause-err c =
    said c.from_residual.result _ (here _ _ _ _ c.in_err-write_ends.ensures.err)

pub returns-in_err-write_end-clause-err : goal.returns-in_err-write_end-clause-err
returns-in_err-write_end-clause-err c =
    said c.from_residual-in_err-write_end.result _ (next _ _ _ _ _ c.in_ok-write_ends.ensures.ok (here _ _ _ _ c.in_err-write_end.ensures.err))

pub returns-clause-err : goal.returns-clause-err
returns-clause-err c =
    on_err c.write_tail.result _ _ (λ h. next _ _ _ _ _ c.in_ok-write_ends.ensures.ok (next _ _ _ _ _ c.in_ok-write_end.ensures.ok (h))) c.write_tail.ensures.err
