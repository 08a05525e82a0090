use Rattle.std.proofs.Common.{[], codes, ◌∷◌}
use Rattle.lab_text.specs.Text.{line_of}
use Rattle.script_model.specs.Texts.{label_text, name_of, port_text}
use Rattle.lab_text.proofs.Fronts.{as_text, begun, here, next, on_err, said}
use Rattle.record_text.proofs.Parts.{flat_4, named_line}
use Rattle.record_text.proofs.write.write_join.Goals as goal

pub returns-in_err-write_node-clause-err : goal.returns-in_err-write_node-clause-err
returns-in_err-write_node-clause-err c =
    said c.from_residual.result _ (as_text _ _ _ _ (named_line (codes "join") (name_of c.args.names.now c.args.node) (port_text c.args.port) (label_text c.args.names.now c.args.vci ∷ port_text c.args.to_port ∷ label_text c.args.names.now c.args.to_vci ∷ [])) (here _ _ _ _ c.in_err-write_node.ensures.err))

pub returns-in_err-write_port_label-clause-err : goal.returns-in_err-write_port_label-clause-err
returns-in_err-write_port_label-clause-err c =
    said c.from_residual-in_err-write_port_label.result _ (as_text _ _ _ _ (named_line (codes "join") (name_of c.args.names.now c.args.node) (port_text c.args.port) (label_text c.args.names.now c.args.vci ∷ port_text c.args.to_port ∷ label_text c.args.names.now c.args.to_vci ∷ [])) (next _ _ _ _ _ c.in_ok-write_node.ensures.ok (as_text _ _ _ _ (flat_4 (port_text c.args.port) (codes " ") (label_text c.args.names.now c.args.vci) (codes " ") (line_of (port_text c.args.to_port ∷ label_text c.args.names.now c.args.to_vci ∷ []))) (here _ _ _ _ c.in_err-write_port_label.ensures.err))))

pub returns-in_err-write_port_label-2-clause-err : goal.returns-in_err-write_port_label-2-clause-err
returns-in_err-write_port_label-2-clause-err c =
    said c.from_residual-in_err-write_port_label-2.result _ (as_text _ _ _ _ (named_line (codes "join") (name_of c.args.names.now c.args.node) (port_text c.args.port) (label_text c.args.names.now c.args.vci ∷ port_text c.args.to_port ∷ label_text c.args.names.now c.args.to_vci ∷ [])) (next _ _ _ _ _ c.in_ok-write_node.ensures.ok (as_text _ _ _ _ (flat_4 (port_text c.args.port) (codes " ") (label_text c.args.names.now c.args.vci) (codes " ") (line_of (port_text c.args.to_port ∷ label_text c.args.names.now c.args.to_vci ∷ []))) (next _ _ _ _ _ c.in_ok-write_port_label.ensures.ok (as_text _ _ _ _ (flat_4 (port_text c.args.to_port) (codes " ") (label_text c.args.names.now c.args.to_vci) (codes "") (codes "\n")) (here _ _ _ _ c.in_err-write_port_label-2.ensures.err))))))

pub returns-clause-err : goal.returns-clause-err
returns-clause-err c =
    on_err c.text.result _ _ (λ h. as_text _ _ _ _ (named_line (codes "join") (name_of c.args.names.now c.args.node) (port_text c.args.port) (label_text c.args.names.now c.args.vci ∷ port_text c.args.to_port ∷ label_text c.args.names.now c.args.to_vci ∷ [])) (next _ _ _ _ _ c.in_ok-write_node.ensures.ok (as_text _ _ _ _ (flat_4 (port_text c.args.port) (codes " ") (label_text c.args.names.now c.args.vci) (codes " ") (line_of (port_text c.args.to_port ∷ label_text c.args.names.now c.args.to_vci ∷ []))) (next _ _ _ _ _ c.in_ok-write_port_label.ensures.ok (as_text _ _ _ _ (flat_4 (port_text c.args.to_port) (codes " ") (label_text c.args.names.now c.args.to_vci) (codes "") (codes "\n")) (next _ _ _ _ _ c.in_ok-write_port_label-2.ensures.ok (begun _ _ _ h))))))) c.text.ensures.err
