use Rattle.std.proofs.Common.{[], append_assoc, codes, ◌∷◌}
use Rattle.lab_text.specs.Text.{line_of}
use Rattle.script_model.specs.Texts.{label_text, port_text}
use Rattle.lab_text.proofs.Fronts.{as_text, begun, here, next, on_err, said}
use Rattle.record_text.proofs.Parts.{flat_5}
use Rattle.line_text.proofs.topology_lines.write_labels.Goals as goal

pub returns-in_err-write_port_of-clause-err : goal.returns-in_err-write_port_of-clause-err
returns-in_err-write_port_of-clause-err c =
    said c.from_residual.result _ (as_text _ _ _ _ (flat_5 (codes "labels ") c.args.name.now (codes " ") (port_text c.args.port) (codes " ") (line_of (label_text c.args.names.now c.args.lo ∷ label_text c.args.names.now c.args.hi ∷ []))) (here _ _ _ _ c.in_err-write_port_of.ensures.err))

pub returns-in_err-write_label_before-clause-err : goal.returns-in_err-write_label_before-clause-err
returns-in_err-write_label_before-clause-err c =
    said c.from_residual-in_err-write_label_before.result _ (as_text _ _ _ _ (flat_5 (codes "labels ") c.args.name.now (codes " ") (port_text c.args.port) (codes " ") (line_of (label_text c.args.names.now c.args.lo ∷ label_text c.args.names.now c.args.hi ∷ []))) (next _ _ _ _ _ c.in_ok-write_port_of.ensures.ok (as_text _ _ _ _ (append_assoc (label_text c.args.names.now c.args.lo) (codes " ") (line_of (label_text c.args.names.now c.args.hi ∷ []))) (here _ _ _ _ c.in_err-write_label_before.ensures.err))))

pub returns-in_err-write_label_before-2-clause-err : goal.returns-in_err-write_label_before-2-clause-err
returns-in_err-write_label_before-2-clause-err c =
    said c.from_residual-in_err-write_label_before-2.result _ (as_text _ _ _ _ (flat_5 (codes "labels ") c.args.name.now (codes " ") (port_text c.args.port) (codes " ") (line_of (label_text c.args.names.now c.args.lo ∷ label_text c.args.names.now c.args.hi ∷ []))) (next _ _ _ _ _ c.in_ok-write_port_of.ensures.ok (as_text _ _ _ _ (append_assoc (label_text c.args.names.now c.args.lo) (codes " ") (line_of (label_text c.args.names.now c.args.hi ∷ []))) (next _ _ _ _ _ c.in_ok-write_label_before.ensures.ok (as_text _ _ _ _ (append_assoc (label_text c.args.names.now c.args.hi) (codes "") (codes "\n")) (here _ _ _ _ c.in_err-write_label_before-2.ensures.err))))))

pub returns-clause-err : goal.returns-clause-err
returns-clause-err c =
    on_err c.text.result _ _ (λ h. as_text _ _ _ _ (flat_5 (codes "labels ") c.args.name.now (codes " ") (port_text c.args.port) (codes " ") (line_of (label_text c.args.names.now c.args.lo ∷ label_text c.args.names.now c.args.hi ∷ []))) (next _ _ _ _ _ c.in_ok-write_port_of.ensures.ok (as_text _ _ _ _ (append_assoc (label_text c.args.names.now c.args.lo) (codes " ") (line_of (label_text c.args.names.now c.args.hi ∷ []))) (next _ _ _ _ _ c.in_ok-write_label_before.ensures.ok (as_text _ _ _ _ (append_assoc (label_text c.args.names.now c.args.hi) (codes "") (codes "\n")) (next _ _ _ _ _ c.in_ok-write_label_before-2.ensures.ok (begun _ _ _ h))))))) c.text.ensures.err
