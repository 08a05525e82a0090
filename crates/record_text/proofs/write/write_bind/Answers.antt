use Rattle.std.proofs.Common.{[], ap, codes, sym, take, ◌∙◌, ◌∷◌}
use Rattle.std.proofs.lemmas.List.{take_at}
use Rattle.ipv4_packet.specs.Identifier.{identifier}
use Rattle.lab_text.specs.Text.{hex_digits, line_of}
use Rattle.script_model.specs.Texts.{label_text, name_of, port_text}
use Rattle.lab_text.proofs.Fronts.{as_text, begun, here, next, next_as, on_err, said}
use Rattle.record_text.proofs.Parts.{flat_4, named_line}
use Rattle.record_text.proofs.write.write_bind.Goals as goal

pub returns-in_err-write_node-clause-err : goal.returns-in_err-write_node-clause-err
returns-in_err-write_node-clause-err c =
    said c.from_residual.result _ (as_text _ _ _ _ (named_line (codes "bind") (name_of c.args.names.now c.args.node) (port_text c.args.port) (label_text c.args.names.now c.args.vci ∷ hex_digits (identifier c.args.flow.now) ∷ [])) (here _ _ _ _ c.in_err-write_node.ensures.err))

pub returns-in_err-write_port_label-clause-err : goal.returns-in_err-write_port_label-clause-err
returns-in_err-write_port_label-clause-err c =
    said c.from_residual-in_err-write_port_label.result _ (as_text _ _ _ _ (named_line (codes "bind") (name_of c.args.names.now c.args.node) (port_text c.args.port) (label_text c.args.names.now c.args.vci ∷ hex_digits (identifier c.args.flow.now) ∷ [])) (next _ _ _ _ _ c.in_ok-write_node.ensures.ok (as_text _ _ _ _ (flat_4 (port_text c.args.port) (codes " ") (label_text c.args.names.now c.args.vci) (codes " ") (line_of (hex_digits (identifier c.args.flow.now) ∷ []))) (here _ _ _ _ c.in_err-write_port_label.ensures.err))))

pub returns-in_err-hex-clause-err : goal.returns-in_err-hex-clause-err
returns-in_err-hex-clause-err c =
    said c.from_residual-in_err-hex.result _ (as_text _ _ _ _ (named_line (codes "bind") (name_of c.args.names.now c.args.node) (port_text c.args.port) (label_text c.args.names.now c.args.vci ∷ hex_digits (identifier c.args.flow.now) ∷ [])) (next _ _ _ _ _ c.in_ok-write_node.ensures.ok (as_text _ _ _ _ (flat_4 (port_text c.args.port) (codes " ") (label_text c.args.names.now c.args.vci) (codes " ") (line_of (hex_digits (identifier c.args.flow.now) ∷ []))) (next _ _ _ _ _ c.in_ok-write_port_label.ensures.ok (begun _ _ _ c.in_err-hex.ensures.err)))))

pub returns-clause-err : goal.returns-clause-err
returns-clause-err c =
    on_err c.text.result _ _ (λ h. as_text _ _ _ _ (named_line (codes "bind") (name_of c.args.names.now c.args.node) (port_text c.args.port) (label_text c.args.names.now c.args.vci ∷ hex_digits (identifier c.args.flow.now) ∷ [])) (next _ _ _ _ _ c.in_ok-write_node.ensures.ok (as_text _ _ _ _ (flat_4 (port_text c.args.port) (codes " ") (label_text c.args.names.now c.args.vci) (codes " ") (line_of (hex_digits (identifier c.args.flow.now) ∷ []))) (next _ _ _ _ _ c.in_ok-write_port_label.ensures.ok (next_as _ _ _ _ _ _ (ap hex_digits (ap (take c.write_identifier-size.result) c.write_identifier-size.ensures.written ∙ take_at _ _ _ (sym c.write_identifier-size.ensures.len))) c.in_ok-hex.ensures.ok (begun _ _ _ h)))))) c.text.ensures.err
