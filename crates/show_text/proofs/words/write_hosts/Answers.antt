use Rattle.std.proofs.Common.{ap, codes, ℕ, ◌++◌}
use Rattle.std.specs.Prelude.{decimal}
use Rattle.lab_text.proofs.Fronts.{as_text, begun, here, next, on_err, said}
use Rattle.show_text.proofs.words.write_hosts.Goals as goal

pub returns-in_err-write_address-clause-err : goal.returns-in_err-write_address-clause-err
returns-in_err-write_address-clause-err c =
    said c.from_residual.result _ (here _ _ _ _ c.in_err-write_address.ensures.err)

pub returns-in_err-text-clause-err : goal.returns-in_err-text-clause-err
returns-in_err-text-clause-err c =
    said c.from_residual-in_err-text.result _ (next _ _ _ _ _ c.in_ok-write_address.ensures.ok (begun _ _ _ c.in_err-text.ensures.err))

pub returns-in_err-write_address-2-clause-err : goal.returns-in_err-write_address-2-clause-err
returns-in_err-write_address-2-clause-err c =
    said c.from_residual-in_err-write_address-2.result _ (next _ _ _ _ _ c.in_ok-write_address.ensures.ok (next _ _ _ _ _ c.in_ok-text.ensures.ok (here _ _ _ _ c.in_err-write_address-2.ensures.err)))

pub returns-clause-err : goal.returns-clause-err
returns-clause-err c =
    on_err c.write_number.result _ _ (λ h. next _ _ _ _ _ c.in_ok-write_address.ensures.ok (next _ _ _ _ _ c.in_ok-text.ensures.ok (next _ _ _ _ _ c.in_ok-write_address-2.ensures.ok (as_text _ _ _ _ (ap (λ (n : ℕ). codes " ttl " ++ decimal n) c.from.ensures) h)))) c.write_number.ensures.err
