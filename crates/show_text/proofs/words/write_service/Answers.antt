use Rattle.std.proofs.Common.{ap, codes, ℕ, ◌++◌}
use Rattle.std.specs.Prelude.{decimal}
use Rattle.lab_text.proofs.Fronts.{as_text, here, next, on_err, said}
use Rattle.show_text.proofs.Parts.{number_part}
use Rattle.show_text.proofs.words.write_service.Goals as goal

pub returns-in_err-write_number-clause-err : goal.returns-in_err-write_number-clause-err
returns-in_err-write_number-clause-err c =
    said c.from_residual.result _ (as_text _ _ _ _ (number_part (codes " protocol ") _ c.args.protocol (_) c.from.ensures) (here _ _ _ _ c.in_err-write_number.ensures.err))

pub returns-in_err-write_number-2-clause-err : goal.returns-in_err-write_number-2-clause-err
returns-in_err-write_number-2-clause-err c =
    said c.from_residual-in_err-write_number-2.result _ (as_text _ _ _ _ (number_part (codes " protocol ") _ c.args.protocol (_) c.from.ensures) (next _ _ _ _ _ c.in_ok-write_number.ensures.ok (as_text _ _ _ _ (number_part (codes " tos ") _ c.args.tos (_) c.from-2.ensures) (here _ _ _ _ c.in_err-write_number-2.ensures.err))))

pub returns-clause-err : goal.returns-clause-err
returns-clause-err c =
    on_err c.write_number-3.result _ _ (λ h. as_text _ _ _ _ (number_part (codes " protocol ") _ c.args.protocol (_) c.from.ensures) (next _ _ _ _ _ c.in_ok-write_number.ensures.ok (as_text _ _ _ _ (number_part (codes " tos ") _ c.args.tos (_) c.from-2.ensures) (next _ _ _ _ _ c.in_ok-write_number-2.ensures.ok (as_text _ _ _ _ (ap (λ (n : ℕ). codes " ttl " ++ decimal n) c.from-3.ensures) h))))) c.write_number-3.ensures.err
