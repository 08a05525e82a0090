use Rattle.std.proofs.Common.{[], codes, ◌∷◌}
use Rattle.std.specs.Prelude.{decimal}
use Rattle.lab_text.specs.Text.{line_of}
use Rattle.lab_text.proofs.Fronts.{begun, next, on_err, said}
use Rattle.record_text.proofs.refused_line.write_number_and_name.Goals as goal

pub returns-in_err-text-clause-err : goal.returns-in_err-text-clause-err
returns-in_err-text-clause-err c =
    said c.from_residual.result _ (begun _ _ _ c.in_err-text.ensures.err)

pub returns-in_err-number-clause-err : goal.returns-in_err-number-clause-err
returns-in_err-number-clause-err c =
    said c.from_residual-in_err-number.result _ (next _ _ (codes "refused ") (line_of (decimal c.args.number ∷ c.args.name.now ∷ [])) _ c.in_ok-text.ensures.ok (begun _ _ _ c.in_err-number.ensures.err))

pub returns-in_err-text-2-clause-err : goal.returns-in_err-text-2-clause-err
returns-in_err-text-2-clause-err c =
    said c.from_residual-in_err-text-2.result _ (next _ _ (codes "refused ") (line_of (decimal c.args.number ∷ c.args.name.now ∷ [])) _ c.in_ok-text.ensures.ok (next _ _ _ _ _ c.in_ok-number.ensures.ok (begun _ _ _ c.in_err-text-2.ensures.err)))

pub returns-in_err-text-3-clause-err : goal.returns-in_err-text-3-clause-err
returns-in_err-text-3-clause-err c =
    said c.from_residual-in_err-text-3.result _ (next _ _ (codes "refused ") (line_of (decimal c.args.number ∷ c.args.name.now ∷ [])) _ c.in_ok-text.ensures.ok (next _ _ _ _ _ c.in_ok-number.ensures.ok (next _ _ _ _ _ c.in_ok-text-2.ensures.ok (begun _ _ _ c.in_err-text-3.ensures.err))))

pub returns-clause-err : goal.returns-clause-err
returns-clause-err c =
    on_err c.text-4.result _ _ (λ h. next _ _ (codes "refused ") (line_of (decimal c.args.number ∷ c.args.name.now ∷ [])) _ c.in_ok-text.ensures.ok (next _ _ _ _ _ c.in_ok-number.ensures.ok (next _ _ _ _ _ c.in_ok-text-2.ensures.ok (next _ _ _ _ _ c.in_ok-text-3.ensures.ok (begun _ _ _ h))))) c.text-4.ensures.err
