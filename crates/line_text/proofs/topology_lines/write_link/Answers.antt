use Rattle.std.proofs.Common.{[], codes, ◌∷◌}
use Rattle.lab_text.specs.Text.{line_of}
use Rattle.script_model.specs.Texts.{end_text}
use Rattle.lab_text.proofs.Fronts.{begun, here, next, on_err, said}
use Rattle.line_text.proofs.topology_lines.write_link.Goals as goal

pub returns-in_err-text-clause-err : goal.returns-in_err-text-clause-err
returns-in_err-text-clause-err c =
    said c.from_residual.result _ (begun _ _ _ c.in_err-text.ensures.err)

pub returns-in_err-write_end-clause-err : goal.returns-in_err-write_end-clause-err
returns-in_err-write_end-clause-err c =
    said c.from_residual-in_err-write_end.result _ (next _ _ (codes "link ") (line_of (end_text c.args.first.now c.args.first_port ∷ end_text c.args.second.now c.args.second_port ∷ [])) _ c.in_ok-text.ensures.ok (here _ _ _ _ c.in_err-write_end.ensures.err))

pub returns-in_err-text-2-clause-err : goal.returns-in_err-text-2-clause-err
returns-in_err-text-2-clause-err c =
    said c.from_residual-in_err-text-2.result _ (next _ _ (codes "link ") (line_of (end_text c.args.first.now c.args.first_port ∷ end_text c.args.second.now c.args.second_port ∷ [])) _ c.in_ok-text.ensures.ok (next _ _ _ _ _ c.in_ok-write_end.ensures.ok (begun _ _ _ c.in_err-text-2.ensures.err)))

pub returns-in_err-write_end-2-clause-err : goal.returns-in_err-write_end-2-clause-err
returns-in_err-write_end-2-clause-err c =
    said c.from_residual-in_err-write_end-2.result _ (next _ _ (codes "link ") (line_of (end_text c.args.first.now c.args.first_port ∷ end_text c.args.second.now c.args.second_port ∷ [])) _ c.in_ok-text.ensures.ok (next _ _ _ _ _ c.in_ok-write_end.ensures.ok (next _ _ _ _ _ c.in_ok-text-2.ensures.ok (here _ _ _ _ c.in_err-write_end-2.ensures.err))))

pub returns-clause-err : goal.returns-clause-err
returns-clause-err c =
    on_err c.text-3.result _ _ (λ h. next _ _ (codes "link ") (line_of (end_text c.args.first.now c.args.first_port ∷ end_text c.args.second.now c.args.second_port ∷ [])) _ c.in_ok-text.ensures.ok (next _ _ _ _ _ c.in_ok-write_end.ensures.ok (next _ _ _ _ _ c.in_ok-text-2.ensures.ok (next _ _ _ _ _ c.in_ok-write_end-2.ensures.ok (begun _ _ _ h))))) c.text-3.ensures.err
