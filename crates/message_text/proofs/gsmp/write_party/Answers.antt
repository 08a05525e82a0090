use Rattle.std.proofs.Common.{ap}
use Rattle.message_text.specs.Fields.{named_number}
use Rattle.message_text.specs.Gsmp.{party_text}
use Rattle.lab_text.proofs.Fronts.{as_text, here, here_as, next, next_as, on_err, said}
use Rattle.message_text.proofs.gsmp.write_party.Goals as goal

pub returns-in_err-write_octets-clause-err : goal.returns-in_err-write_octets-clause-err
unfolding party_text
returns-in_err-write_octets-clause-err c =
    said c.from_residual.result _ (here _ _ _ _ c.in_err-write_octets.ensures.err)

pub returns-in_err-write_number-clause-err : goal.returns-in_err-write_number-clause-err
unfolding party_text
returns-in_err-write_number-clause-err c =
    said c.from_residual-in_err-write_number.result _ (next _ _ _ _ _ c.in_ok-write_octets.ensures.ok (here_as _ _ _ _ _ (ap (named_number _) c.from.ensures) c.in_err-write_number.ensures.err))

pub returns-clause-err : goal.returns-clause-err
unfolding party_text
returns-clause-err c =
    on_err c.write_number-2.result _ _ (λ h. next _ _ _ _ _ c.in_ok-write_octets.ensures.ok (next_as _ _ _ _ _ _ (ap (named_number _) c.from.ensures) c.in_ok-write_number.ensures.ok (as_text _ _ _ _ (ap (named_number _) c.from-2.ensures) h))) c.write_number-2.ensures.err
