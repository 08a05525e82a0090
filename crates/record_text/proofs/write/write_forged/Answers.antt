use Rattle.std.proofs.Common.{[], codes, ◌∷◌}
use Rattle.lab_text.specs.Text.{line_of}
use Rattle.script_model.specs.Texts.{place_text}
use Rattle.lab_text.proofs.Fronts.{begun, here, next, on_err, said}
use Rattle.record_text.proofs.write.write_forged.Goals as goal

pub returns-in_err-text-clause-err : goal.returns-in_err-text-clause-err
returns-in_err-text-clause-err c =
    said c.from_residual.result _ (begun _ _ _ c.in_err-text.ensures.err)

pub returns-in_err-write_place-clause-err : goal.returns-in_err-write_place-clause-err
returns-in_err-write_place-clause-err c =
    said c.from_residual-in_err-write_place.result _ (next _ _ (codes "forged ") (line_of (place_text c.args.names.now c.args.place ∷ [])) _ c.in_ok-text.ensures.ok (here _ _ _ _ c.in_err-write_place.ensures.err))

pub returns-clause-err : goal.returns-clause-err
returns-clause-err c =
    on_err c.text-2.result _ _ (λ h. next _ _ (codes "forged ") (line_of (place_text c.args.names.now c.args.place ∷ [])) _ c.in_ok-text.ensures.ok (next _ _ _ _ _ c.in_ok-write_place.ensures.ok (begun _ _ _ h))) c.text-2.ensures.err
