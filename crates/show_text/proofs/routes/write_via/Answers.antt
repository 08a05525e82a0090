use Rattle.std.proofs.Common.{codes, ◌++◌}
use Rattle.script_model.specs.Texts.{port_text, prefix_text}
use Rattle.lab_text.proofs.Fronts.{as_text, begun, here, next, on_err, said}
use Rattle.record_text.proofs.Parts.{flat_5}
use Rattle.show_text.proofs.routes.write_via.Goals as goal

pub returns-in_err-write_changed-clause-err : goal.returns-in_err-write_changed-clause-err
returns-in_err-write_changed-clause-err c =
    said c.from_residual.result _ (as_text _ _ _ _ (flat_5 (codes "setroute") (codes " ") c.args.name.now (codes " ") (prefix_text c.args.prefix) (codes " via " ++ port_text c.args.port)) (here _ _ _ _ c.in_err-write_changed.ensures.err))

pub returns-in_err-text-clause-err : goal.returns-in_err-text-clause-err
returns-in_err-text-clause-err c =
    said c.from_residual-in_err-text.result _ (as_text _ _ _ _ (flat_5 (codes "setroute") (codes " ") c.args.name.now (codes " ") (prefix_text c.args.prefix) (codes " via " ++ port_text c.args.port)) (next _ _ _ _ _ c.in_ok-write_changed.ensures.ok (begun _ _ _ c.in_err-text.ensures.err)))

pub returns-clause-err : goal.returns-clause-err
returns-clause-err c =
    on_err c.write_port.result _ _ (λ h. as_text _ _ _ _ (flat_5 (codes "setroute") (codes " ") c.args.name.now (codes " ") (prefix_text c.args.prefix) (codes " via " ++ port_text c.args.port)) (next _ _ _ _ _ c.in_ok-write_changed.ensures.ok (next _ _ _ _ _ c.in_ok-text.ensures.ok (begun _ _ _ h)))) c.write_port.ensures.err
