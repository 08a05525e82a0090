use Rattle.std.proofs.Common.{append_assoc, codes}
use Rattle.std.specs.Prelude.{decimal}
use Rattle.lab_text.proofs.Fronts.{as_text, here, next, on_err, said}
use Rattle.show_text.proofs.words.write_slots.Goals as goal

pub returns-in_err-write_number-clause-err : goal.returns-in_err-write_number-clause-err
returns-in_err-write_number-clause-err c =
    said c.from_residual.result _ (as_text _ _ _ _ (append_assoc (codes " free ") (decimal c.args.free) _) (here _ _ _ _ c.in_err-write_number.ensures.err))

pub returns-clause-err : goal.returns-clause-err
returns-clause-err c =
    on_err c.write_number-2.result _ _ (λ h. as_text _ _ _ _ (append_assoc (codes " free ") (decimal c.args.free) _) (next _ _ _ _ _ c.in_ok-write_number.ensures.ok (h))) c.write_number-2.ensures.err
