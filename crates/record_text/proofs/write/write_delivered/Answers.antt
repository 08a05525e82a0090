use Rattle.std.proofs.Common.{[], ap, codes, ◌∷◌}
use Rattle.std.specs.Prelude.{decimal}
use Rattle.lab_text.specs.Text.{hex_digits}
use Rattle.script_model.specs.Texts.{name_of}
use Rattle.lab_text.proofs.Fronts.{as_text, begun, here, next, next_as, on_err, said}
use Rattle.record_text.proofs.Parts.{named_line}
use Rattle.record_text.proofs.write.write_delivered.Goals as goal

pub returns-in_err-write_node-clause-err : goal.returns-in_err-write_node-clause-err
returns-in_err-write_node-clause-err c =
    said c.from_residual.result _ (as_text _ _ _ _ (named_line (codes "deliver") (name_of c.args.names.now c.args.node) (decimal c.args.packet) (hex_digits c.args.octets.now ∷ [])) (here _ _ _ _ c.in_err-write_node.ensures.err))

pub returns-in_err-number-clause-err : goal.returns-in_err-number-clause-err
returns-in_err-number-clause-err c =
    said c.from_residual-in_err-number.result _ (as_text _ _ _ _ (named_line (codes "deliver") (name_of c.args.names.now c.args.node) (decimal c.args.packet) (hex_digits c.args.octets.now ∷ [])) (next _ _ _ _ _ c.in_ok-write_node.ensures.ok (begun _ _ _ c.in_err-number.ensures.err)))

pub returns-in_err-text-clause-err : goal.returns-in_err-text-clause-err
returns-in_err-text-clause-err c =
    said c.from_residual-in_err-text.result _ (as_text _ _ _ _ (named_line (codes "deliver") (name_of c.args.names.now c.args.node) (decimal c.args.packet) (hex_digits c.args.octets.now ∷ [])) (next _ _ _ _ _ c.in_ok-write_node.ensures.ok (next_as _ _ _ _ _ _ (ap decimal c.from.ensures) c.in_ok-number.ensures.ok (begun _ _ _ c.in_err-text.ensures.err))))

pub returns-in_err-hex-clause-err : goal.returns-in_err-hex-clause-err
returns-in_err-hex-clause-err c =
    said c.from_residual-in_err-hex.result _ (as_text _ _ _ _ (named_line (codes "deliver") (name_of c.args.names.now c.args.node) (decimal c.args.packet) (hex_digits c.args.octets.now ∷ [])) (next _ _ _ _ _ c.in_ok-write_node.ensures.ok (next_as _ _ _ _ _ _ (ap decimal c.from.ensures) c.in_ok-number.ensures.ok (next _ _ _ _ _ c.in_ok-text.ensures.ok (begun _ _ _ c.in_err-hex.ensures.err)))))

pub returns-clause-err : goal.returns-clause-err
returns-clause-err c =
    on_err c.text-2.result _ _ (λ h. as_text _ _ _ _ (named_line (codes "deliver") (name_of c.args.names.now c.args.node) (decimal c.args.packet) (hex_digits c.args.octets.now ∷ [])) (next _ _ _ _ _ c.in_ok-write_node.ensures.ok (next_as _ _ _ _ _ _ (ap decimal c.from.ensures) c.in_ok-number.ensures.ok (next _ _ _ _ _ c.in_ok-text.ensures.ok (next _ _ _ _ _ c.in_ok-hex.ensures.ok (begun _ _ _ h)))))) c.text-2.ensures.err
