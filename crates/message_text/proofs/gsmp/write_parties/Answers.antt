use Rattle.lab_text.proofs.Fronts.{here, next, on_err, said}
use Rattle.message_text.proofs.gsmp.write_parties.Goals as goal

pub returns-in_err-write_party-clause-err : goal.returns-in_err-write_party-clause-err
returns-in_err-write_party-clause-err c =
    said c.from_residual.result _ (here _ _ _ _ c.in_err-write_party.ensures.err)

pub returns-clause-err : goal.returns-clause-err
returns-clause-err c =
    on_err c.write_party-2.result _ _ (λ h. next _ _ _ _ _ c.in_ok-write_party.ensures.ok (h)) c.write_party-2.ensures.err
