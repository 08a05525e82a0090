use Rattle.std.proofs.Common.{codes, ◌++◌}
use Rattle.message_text.specs.Gsmp.{gsmp_text}
use Rattle.script_model.specs.Texts.{name_of}
use Rattle.lab_text.proofs.Fronts.{as_text, begun, here, next, on_err, said}
use Rattle.record_text.proofs.Parts.{flat_3}
use Rattle.show_text.proofs.node.write_request.Goals as goal

pub returns-in_err-write_head-clause-err : goal.returns-in_err-write_head-clause-err
returns-in_err-write_head-clause-err c =
    said c.from_residual.result _ (as_text _ _ _ _ (flat_3 (codes "request ") (name_of c.args.names.now c.args.node) (codes " ") (gsmp_text c.args.message.now ++ codes "\n")) (here _ _ _ _ c.in_err-write_head.ensures.err))

pub returns-in_err-write_gsmp-clause-err : goal.returns-in_err-write_gsmp-clause-err
returns-in_err-write_gsmp-clause-err c =
    said c.from_residual-in_err-write_gsmp.result _ (as_text _ _ _ _ (flat_3 (codes "request ") (name_of c.args.names.now c.args.node) (codes " ") (gsmp_text c.args.message.now ++ codes "\n")) (next _ _ _ _ _ c.in_ok-write_head.ensures.ok (here _ _ _ _ c.in_err-write_gsmp.ensures.err)))

pub returns-clause-err : goal.returns-clause-err
returns-clause-err c =
    on_err c.text.result _ _ (λ h. as_text _ _ _ _ (flat_3 (codes "request ") (name_of c.args.names.now c.args.node) (codes " ") (gsmp_text c.args.message.now ++ codes "\n")) (next _ _ _ _ _ c.in_ok-write_head.ensures.ok (next _ _ _ _ _ c.in_ok-write_gsmp.ensures.ok (begun _ _ _ h)))) c.text.ensures.err
