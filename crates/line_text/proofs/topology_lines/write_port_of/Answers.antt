use Rattle.std.proofs.Common.{codes, ◌++◌}
use Rattle.script_model.specs.Texts.{port_text}
use Rattle.lab_text.proofs.Fronts.{as_text, begun, here, next, on_err, said}
use Rattle.record_text.proofs.Parts.{flat_4}
use Rattle.line_text.proofs.topology_lines.write_port_of.Goals as goal

pub returns-in_err-write_named-clause-err : goal.returns-in_err-write_named-clause-err
returns-in_err-write_named-clause-err c =
    said c.from_residual.result _ (as_text _ _ _ _ (flat_4 (codes "labels") (codes " ") c.args.name.now (codes " ") (port_text c.args.port ++ codes " ")) (here _ _ _ _ c.in_err-write_named.ensures.err))

pub returns-in_err-write_port-clause-err : goal.returns-in_err-write_port-clause-err
returns-in_err-write_port-clause-err c =
    said c.from_residual-in_err-write_port.result _ (as_text _ _ _ _ (flat_4 (codes "labels") (codes " ") c.args.name.now (codes " ") (port_text c.args.port ++ codes " ")) (next _ _ _ _ _ c.in_ok-write_named.ensures.ok (begun _ _ _ c.in_err-write_port.ensures.err)))

pub returns-clause-err : goal.returns-clause-err
returns-clause-err c =
    on_err c.text.result _ _ (λ h. as_text _ _ _ _ (flat_4 (codes "labels") (codes " ") c.args.name.now (codes " ") (port_text c.args.port ++ codes " ")) (next _ _ _ _ _ c.in_ok-write_named.ensures.ok (next _ _ _ _ _ c.in_ok-write_port.ensures.ok (begun _ _ _ h)))) c.text.ensures.err
