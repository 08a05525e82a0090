use Rattle.std.proofs.Common.{ap, codes, ℕ, ◌++◌}
use Rattle.std.specs.Prelude.{decimal}
use Rattle.lab_text.proofs.Fronts.{as_text, begun, here, next, next_as, on_err, said}
use Rattle.show_text.proofs.Parts.{number_part}
use Rattle.show_text.proofs.labels.write_ticks.Goals as goal

pub returns-in_err-text-clause-err : goal.returns-in_err-text-clause-err
returns-in_err-text-clause-err c =
    said c.from_residual.result _ (begun _ _ _ c.in_err-text.ensures.err)

pub returns-in_err-text-2-clause-err : goal.returns-in_err-text-2-clause-err
returns-in_err-text-2-clause-err c =
    said c.from_residual-in_err-text-2.result _ (next _ _ _ _ _ c.in_ok-text.ensures.ok (begun _ _ _ c.in_err-text-2.ensures.err))

pub returns-in_err-write_number-clause-err : goal.returns-in_err-write_number-clause-err
returns-in_err-write_number-clause-err c =
    said c.from_residual-in_err-write_number.result _ (next _ _ _ _ _ c.in_ok-text.ensures.ok (next_as _ _ _ _ _ _ (c.state_word.ensures) c.in_ok-text-2.ensures.ok (as_text _ _ _ _ (number_part (codes " idle ") _ c.args.label.now.idle (_) c.from.ensures) (here _ _ _ _ c.in_err-write_number.ensures.err))))

pub returns-clause-err : goal.returns-clause-err
returns-clause-err c =
    on_err c.write_number-2.result _ _ (λ h. next _ _ _ _ _ c.in_ok-text.ensures.ok (next_as _ _ _ _ _ _ (c.state_word.ensures) c.in_ok-text-2.ensures.ok (as_text _ _ _ _ (number_part (codes " idle ") _ c.args.label.now.idle (_) c.from.ensures) (next _ _ _ _ _ c.in_ok-write_number.ensures.ok (as_text _ _ _ _ (ap (λ (n : ℕ). codes " told " ++ decimal n) c.from-2.ensures) h))))) c.write_number-2.ensures.err
