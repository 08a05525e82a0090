use Rattle.std.proofs.Common.{[], codes}
use Rattle.script_model.specs.Texts.{prefix_text}
use Rattle.lab_text.proofs.Fronts.{as_text, begun, here, next, on_err, said}
use Rattle.record_text.proofs.Parts.{named_line}
use Rattle.line_text.proofs.routes.write_unroute.Goals as goal

pub returns-in_err-write_named-clause-err : goal.returns-in_err-write_named-clause-err
returns-in_err-write_named-clause-err c =
    said c.from_residual.result _ (as_text _ _ _ _ (named_line (codes "unroute") c.args.name.now (prefix_text c.args.prefix) ([])) (here _ _ _ _ c.in_err-write_named.ensures.err))

pub returns-in_err-write_prefix-clause-err : goal.returns-in_err-write_prefix-clause-err
returns-in_err-write_prefix-clause-err c =
    said c.from_residual-in_err-write_prefix.result _ (as_text _ _ _ _ (named_line (codes "unroute") c.args.name.now (prefix_text c.args.prefix) ([])) (next _ _ _ _ _ c.in_ok-write_named.ensures.ok (here _ _ _ _ c.in_err-write_prefix.ensures.err)))

pub returns-clause-err : goal.returns-clause-err
returns-clause-err c =
    on_err c.text.result _ _ (λ h. as_text _ _ _ _ (named_line (codes "unroute") c.args.name.now (prefix_text c.args.prefix) ([])) (next _ _ _ _ _ c.in_ok-write_named.ensures.ok (next _ _ _ _ _ c.in_ok-write_prefix.ensures.ok (begun _ _ _ h)))) c.text.ensures.err
