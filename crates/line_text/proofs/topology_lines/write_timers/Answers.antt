use Rattle.std.proofs.Common.{[], ap, codes, ◌∷◌}
use Rattle.std.specs.Prelude.{decimal}
use Rattle.lab_text.specs.Text.{line_of}
use Rattle.lab_text.proofs.Fronts.{begun, next, next_as, on_err, said}
use Rattle.line_text.proofs.topology_lines.write_timers.Goals as goal

pub returns-in_err-text-clause-err : goal.returns-in_err-text-clause-err
returns-in_err-text-clause-err c =
    said c.from_residual.result _ (begun _ _ _ c.in_err-text.ensures.err)

pub returns-in_err-number-clause-err : goal.returns-in_err-number-clause-err
returns-in_err-number-clause-err c =
    said c.from_residual-in_err-number.result _ (next _ _ (codes "timers ") (line_of (decimal c.args.lifetime ∷ decimal c.args.refresh ∷ decimal c.args.idle ∷ [])) _ c.in_ok-text.ensures.ok (begun _ _ _ c.in_err-number.ensures.err))

pub returns-in_err-text-2-clause-err : goal.returns-in_err-text-2-clause-err
returns-in_err-text-2-clause-err c =
    said c.from_residual-in_err-text-2.result _ (next _ _ (codes "timers ") (line_of (decimal c.args.lifetime ∷ decimal c.args.refresh ∷ decimal c.args.idle ∷ [])) _ c.in_ok-text.ensures.ok (next_as _ _ _ _ _ _ (ap decimal c.from.ensures) c.in_ok-number.ensures.ok (begun _ _ _ c.in_err-text-2.ensures.err)))

pub returns-in_err-number-2-clause-err : goal.returns-in_err-number-2-clause-err
returns-in_err-number-2-clause-err c =
    said c.from_residual-in_err-number-2.result _ (next _ _ (codes "timers ") (line_of (decimal c.args.lifetime ∷ decimal c.args.refresh ∷ decimal c.args.idle ∷ [])) _ c.in_ok-text.ensures.ok (next_as _ _ _ _ _ _ (ap decimal c.from.ensures) c.in_ok-number.ensures.ok (next _ _ _ _ _ c.in_ok-text-2.ensures.ok (begun _ _ _ c.in_err-number-2.ensures.err))))

pub returns-in_err-text-3-clause-err : goal.returns-in_err-text-3-clause-err
returns-in_err-text-3-clause-err c =
    said c.from_residual-in_err-text-3.result _ (next _ _ (codes "timers ") (line_of (decimal c.args.lifetime ∷ decimal c.args.refresh ∷ decimal c.args.idle ∷ [])) _ c.in_ok-text.ensures.ok (next_as _ _ _ _ _ _ (ap decimal c.from.ensures) c.in_ok-number.ensures.ok (next _ _ _ _ _ c.in_ok-text-2.ensures.ok (next_as _ _ _ _ _ _ (ap decimal c.from-2.ensures) c.in_ok-number-2.ensures.ok (begun _ _ _ c.in_err-text-3.ensures.err)))))

pub returns-in_err-number-3-clause-err : goal.returns-in_err-number-3-clause-err
returns-in_err-number-3-clause-err c =
    said c.from_residual-in_err-number-3.result _ (next _ _ (codes "timers ") (line_of (decimal c.args.lifetime ∷ decimal c.args.refresh ∷ decimal c.args.idle ∷ [])) _ c.in_ok-text.ensures.ok (next_as _ _ _ _ _ _ (ap decimal c.from.ensures) c.in_ok-number.ensures.ok (next _ _ _ _ _ c.in_ok-text-2.ensures.ok (next_as _ _ _ _ _ _ (ap decimal c.from-2.ensures) c.in_ok-number-2.ensures.ok (next _ _ _ _ _ c.in_ok-text-3.ensures.ok (begun _ _ _ c.in_err-number-3.ensures.err))))))

pub returns-clause-err : goal.returns-clause-err
returns-clause-err c =
    on_err c.text-4.result _ _ (λ h. next _ _ (codes "timers ") (line_of (decimal c.args.lifetime ∷ decimal c.args.refresh ∷ decimal c.args.idle ∷ [])) _ c.in_ok-text.ensures.ok (next_as _ _ _ _ _ _ (ap decimal c.from.ensures) c.in_ok-number.ensures.ok (next _ _ _ _ _ c.in_ok-text-2.ensures.ok (next_as _ _ _ _ _ _ (ap decimal c.from-2.ensures) c.in_ok-number-2.ensures.ok (next _ _ _ _ _ c.in_ok-text-3.ensures.ok (next_as _ _ _ _ _ _ (ap decimal c.from-3.ensures) c.in_ok-number-3.ensures.ok (begun _ _ _ h))))))) c.text-4.ensures.err
