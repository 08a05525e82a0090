use Rattle.std.proofs.Common.{[], codes}
use Rattle.script_model.specs.Texts.{address_text}
use Rattle.lab_text.proofs.Fronts.{as_text, begun, here, next, on_err, said}
use Rattle.record_text.proofs.Parts.{named_line}
use Rattle.line_text.proofs.topology_lines.write_node.Goals as goal

pub returns-in_err-write_named-clause-err : goal.returns-in_err-write_named-clause-err
returns-in_err-write_named-clause-err c =
    said c.from_residual.result _ (as_text _ _ _ _ (named_line (codes "node") c.args.name.now (address_text c.args.address) ([])) (here _ _ _ _ c.in_err-write_named.ensures.err))

pub returns-in_err-write_address-clause-err : goal.returns-in_err-write_address-clause-err
returns-in_err-write_address-clause-err c =
    said c.from_residual-in_err-write_address.result _ (as_text _ _ _ _ (named_line (codes "node") c.args.name.now (address_text c.args.address) ([])) (next _ _ _ _ _ c.in_ok-write_named.ensures.ok (here _ _ _ _ c.in_err-write_address.ensures.err)))

pub returns-clause-err : goal.returns-clause-err
returns-clause-err c =
    on_err c.text.result _ _ (λ h. as_text _ _ _ _ (named_line (codes "node") c.args.name.now (address_text c.args.address) ([])) (next _ _ _ _ _ c.in_ok-write_named.ensures.ok (next _ _ _ _ _ c.in_ok-write_address.ensures.ok (begun _ _ _ h)))) c.text.ensures.err
