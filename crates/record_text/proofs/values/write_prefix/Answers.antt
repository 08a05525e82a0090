use Rattle.std.proofs.Common.{ap}
use Rattle.script_model.specs.Texts.{address_text}
use Rattle.lab_text.proofs.Fronts.{begun, here_as, next, next_as, on_err, said}
use Rattle.record_text.proofs.values.write_prefix.Goals as goal

pub returns-in_err-write_address-clause-err : goal.returns-in_err-write_address-clause-err
returns-in_err-write_address-clause-err c =
    said c.from_residual.result _ (here_as _ _ _ _ _ (ap address_text c.addr.ensures) c.in_err-write_address.ensures.err)

pub returns-in_err-text-clause-err : goal.returns-in_err-text-clause-err
returns-in_err-text-clause-err c =
    said c.from_residual-in_err-text.result _ (next_as _ _ _ _ _ _ (ap address_text c.addr.ensures) c.in_ok-write_address.ensures.ok (begun _ _ _ c.in_err-text.ensures.err))

pub returns-clause-err : goal.returns-clause-err
returns-clause-err c =
    on_err c.number.result _ _ (λ h. next_as _ _ _ _ _ _ (ap address_text c.addr.ensures) c.in_ok-write_address.ensures.ok (next _ _ _ _ _ c.in_ok-text.ensures.ok (begun _ _ _ h))) c.number.ensures.err
