use Rattle.std.proofs.Common.{[]}
use Rattle.script_model.specs.Texts.{name_of, port_text}
use Rattle.lab_text.proofs.Fronts.{as_text, begun, here, next, on_err, said}
use Rattle.record_text.proofs.Parts.{named_line}
use Rattle.record_text.proofs.write.write_port_line.Goals as goal

pub returns-in_err-write_node-clause-err : goal.returns-in_err-write_node-clause-err
returns-in_err-write_node-clause-err c =
    said c.from_residual.result _ (as_text _ _ _ _ (named_line (c.args.word.now) (name_of c.args.names.now c.args.node) (port_text c.args.port) ([])) (here _ _ _ _ c.in_err-write_node.ensures.err))

pub returns-in_err-write_port-clause-err : goal.returns-in_err-write_port-clause-err
returns-in_err-write_port-clause-err c =
    said c.from_residual-in_err-write_port.result _ (as_text _ _ _ _ (named_line (c.args.word.now) (name_of c.args.names.now c.args.node) (port_text c.args.port) ([])) (next _ _ _ _ _ c.in_ok-write_node.ensures.ok (begun _ _ _ c.in_err-write_port.ensures.err)))

pub returns-clause-err : goal.returns-clause-err
returns-clause-err c =
    on_err c.text.result _ _ (λ h. as_text _ _ _ _ (named_line (c.args.word.now) (name_of c.args.names.now c.args.node) (port_text c.args.port) ([])) (next _ _ _ _ _ c.in_ok-write_node.ensures.ok (next _ _ _ _ _ c.in_ok-write_port.ensures.ok (begun _ _ _ h)))) c.text.ensures.err
