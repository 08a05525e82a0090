use Rattle.std.proofs.Common.{ap}
use Rattle.message_text.specs.Fields.{named_number}
use Rattle.message_text.specs.Gsmp.{end_text}
use Rattle.lab_text.proofs.Fronts.{here_as, next_as, on_err, said}
use Rattle.message_text.proofs.gsmp.write_end.Goals as goal

pub returns-in_err-write_number-clause-err : goal.returns-in_err-write_number-clause-err
unfolding end_text
returns-in_err-write_number-clause-err c =
    said c.from_residual.result _ (here_as _ _ _ _ _ (ap (named_number _) c.from.ensures) c.in_err-write_number.ensures.err)

pub returns-clause-err : goal.returns-clause-err
unfolding end_text
returns-clause-err c =
    on_err c.write_channel.result _ _ (λ h. next_as _ _ _ _ _ _ (ap (named_number _) c.from.ensures) c.in_ok-write_number.ensures.ok (h)) c.write_channel.ensures.err
