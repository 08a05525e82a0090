use Rattle.std.proofs.Common.{codes}
use Rattle.script_model.specs.Texts.{prefix_text}
use Rattle.lab_text.proofs.Fronts.{as_text, begun, here, next, on_err, said}
use Rattle.record_text.proofs.Parts.{flat_5}
use Rattle.show_text.proofs.routes.write_local.Goals as goal

pub returns-in_err-write_changed-clause-err : goal.returns-in_err-write_changed-clause-err
returns-in_err-write_changed-clause-err c =
    said c.from_residual.result _ (as_text _ _ _ _ (flat_5 (codes "setroute") (codes " ") c.args.name.now (codes " ") (prefix_text c.args.prefix) (codes " local")) (here _ _ _ _ c.in_err-write_changed.ensures.err))

pub returns-clause-err : goal.returns-clause-err
returns-clause-err c =
    on_err c.text.result _ _ (λ h. as_text _ _ _ _ (flat_5 (codes "setroute") (codes " ") c.args.name.now (codes " ") (prefix_text c.args.prefix) (codes " local")) (next _ _ _ _ _ c.in_ok-write_changed.ensures.ok (begun _ _ _ h))) c.text.ensures.err
