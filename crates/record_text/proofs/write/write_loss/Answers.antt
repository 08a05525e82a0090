use Rattle.std.proofs.Common.{[], codes, ◌∷◌}
use Rattle.lab_text.specs.Names.{cause_text}
use Rattle.lab_text.specs.Text.{line_of}
use Rattle.script_model.specs.Texts.{mark_text}
use Rattle.lab_text.proofs.Fronts.{begun, here, next, next_as, on_err, said}
use Rattle.record_text.proofs.write.write_loss.Goals as goal

pub returns-in_err-text-clause-err : goal.returns-in_err-text-clause-err
returns-in_err-text-clause-err c =
    said c.from_residual.result _ (begun _ _ _ c.in_err-text.ensures.err)

pub returns-in_err-write_mark-clause-err : goal.returns-in_err-write_mark-clause-err
returns-in_err-write_mark-clause-err c =
    said c.from_residual-in_err-write_mark.result _ (next _ _ (codes "loss ") (line_of (mark_text c.args.mark ∷ cause_text c.args.cause ∷ [])) _ c.in_ok-text.ensures.ok (here _ _ _ _ c.in_err-write_mark.ensures.err))

pub returns-in_err-text-2-clause-err : goal.returns-in_err-text-2-clause-err
returns-in_err-text-2-clause-err c =
    said c.from_residual-in_err-text-2.result _ (next _ _ (codes "loss ") (line_of (mark_text c.args.mark ∷ cause_text c.args.cause ∷ [])) _ c.in_ok-text.ensures.ok (next _ _ _ _ _ c.in_ok-write_mark.ensures.ok (begun _ _ _ c.in_err-text-2.ensures.err)))

pub returns-in_err-text-3-clause-err : goal.returns-in_err-text-3-clause-err
returns-in_err-text-3-clause-err c =
    said c.from_residual-in_err-text-3.result _ (next _ _ (codes "loss ") (line_of (mark_text c.args.mark ∷ cause_text c.args.cause ∷ [])) _ c.in_ok-text.ensures.ok (next _ _ _ _ _ c.in_ok-write_mark.ensures.ok (next _ _ _ _ _ c.in_ok-text-2.ensures.ok (begun _ _ _ c.in_err-text-3.ensures.err))))

pub returns-clause-err : goal.returns-clause-err
returns-clause-err c =
    on_err c.text-4.result _ _ (λ h. next _ _ (codes "loss ") (line_of (mark_text c.args.mark ∷ cause_text c.args.cause ∷ [])) _ c.in_ok-text.ensures.ok (next _ _ _ _ _ c.in_ok-write_mark.ensures.ok (next _ _ _ _ _ c.in_ok-text-2.ensures.ok (next_as _ _ _ _ _ _ (c.cause_name.ensures) c.in_ok-text-3.ensures.ok (begun _ _ _ h))))) c.text-4.ensures.err
