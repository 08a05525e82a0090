use Rattle.std.proofs.Common.{[], codes, ◌∷◌}
use Rattle.lab_text.specs.Text.{line_of}
use Rattle.script_model.specs.Texts.{mark_text}
use Rattle.lab_text.proofs.Fronts.{begun, here, next, on_err, said}
use Rattle.record_text.proofs.write.write_chance.Goals as goal

pub returns-in_err-text-clause-err : goal.returns-in_err-text-clause-err
returns-in_err-text-clause-err c =
    said c.from_residual.result _ (begun _ _ _ c.in_err-text.ensures.err)

pub returns-in_err-write_mark-clause-err : goal.returns-in_err-write_mark-clause-err
returns-in_err-write_mark-clause-err c =
    said c.from_residual-in_err-write_mark.result _ (next _ _ (codes "chance ") (line_of (mark_text c.args.mark ∷ [])) _ c.in_ok-text.ensures.ok (here _ _ _ _ c.in_err-write_mark.ensures.err))

pub returns-clause-err : goal.returns-clause-err
returns-clause-err c =
    on_err c.text-2.result _ _ (λ h. next _ _ (codes "chance ") (line_of (mark_text c.args.mark ∷ [])) _ c.in_ok-text.ensures.ok (next _ _ _ _ _ c.in_ok-write_mark.ensures.ok (begun _ _ _ h))) c.text-2.ensures.err
