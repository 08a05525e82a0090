use Rattle.std.proofs.Common.{ap}
use Rattle.message_text.specs.Fields.{named_number}
use Rattle.message_text.specs.Gsmp.{head_text}
use Rattle.message_text.proofs.Answers.{head_written, on_ok}
use Rattle.lab_text.proofs.Fronts.{as_text, begun, here_as, next, next_as, on_err, said}
use Rattle.message_text.proofs.gsmp.write_head.Goals as goal

pub returns-clause-ok : goal.returns-clause-ok
returns-clause-ok c =
    on_ok c.write_number-2.result _ _ (λ last. head_written c.args.out.now c.write_result.new.out c.write_number.new.out c.write_number-2.new.out c.args.head.now c.from.result c.from-2.result
    c.from.ensures c.from-2.ensures c.in_ok-write_result.ensures.ok c.in_ok-write_number.ensures.ok last) c.write_number-2.ensures.ok

pub returns-in_err-write_result-clause-err : goal.returns-in_err-write_result-clause-err
unfolding head_text
returns-in_err-write_result-clause-err c =
    said c.from_residual.result _ (begun _ _ _ c.in_err-write_result.ensures.err)

pub returns-in_err-write_number-clause-err : goal.returns-in_err-write_number-clause-err
unfolding head_text
returns-in_err-write_number-clause-err c =
    said c.from_residual-in_err-write_number.result _ (next _ _ _ _ _ c.in_ok-write_result.ensures.ok (here_as _ _ _ _ _ (ap (named_number _) c.from.ensures) c.in_err-write_number.ensures.err))

pub returns-clause-err : goal.returns-clause-err
unfolding head_text
returns-clause-err c =
    on_err c.write_number-2.result _ _ (λ h. next _ _ _ _ _ c.in_ok-write_result.ensures.ok (next_as _ _ _ _ _ _ (ap (named_number _) c.from.ensures) c.in_ok-write_number.ensures.ok (as_text _ _ _ _ (ap (named_number _) c.from-2.ensures) h))) c.write_number-2.ensures.err
