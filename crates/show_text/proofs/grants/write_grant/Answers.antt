use Rattle.std.proofs.Common.{codes}
use Rattle.std.specs.Prelude.{decimal}
use Rattle.script_model.specs.Texts.{label_text}
use Rattle.show_text.specs.Views.{word_by}
use Rattle.show_text.specs.Words.{at_text}
use Rattle.lab_text.proofs.Fronts.{as_text, here, next, on_err, said}
use Rattle.record_text.proofs.Parts.{flat_4}
use Rattle.show_text.proofs.grants.write_grant.Goals as goal

pub returns-in_err-write_front-clause-err : goal.returns-in_err-write_front-clause-err
returns-in_err-write_front-clause-err c =
    said c.from_residual.result _ (as_text _ _ _ _ (flat_4 (codes "grant ") (at_text c.args.names.now c.args.node c.args.port) (codes " ") (label_text c.args.names.now c.args.grant.now.label) _) (here _ _ _ _ c.in_err-write_front.ensures.err))

pub returns-in_err-write_life-clause-err : goal.returns-in_err-write_life-clause-err
returns-in_err-write_life-clause-err c =
    said c.from_residual-in_err-write_life.result _ (as_text _ _ _ _ (flat_4 (codes "grant ") (at_text c.args.names.now c.args.node c.args.port) (codes " ") (label_text c.args.names.now c.args.grant.now.label) _) (next _ _ _ _ _ c.in_ok-write_front.ensures.ok (as_text _ _ _ _ (flat_4 (codes " ") (word_by c.args.grant.now.state c.args.grant.now.owed) (codes " lifetime ") (decimal c.args.grant.now.lifetime) _) (here _ _ _ _ c.in_err-write_life.ensures.err))))

pub returns-clause-err : goal.returns-clause-err
returns-clause-err c =
    on_err c.write_flow_and_join.result _ _ (λ h. as_text _ _ _ _ (flat_4 (codes "grant ") (at_text c.args.names.now c.args.node c.args.port) (codes " ") (label_text c.args.names.now c.args.grant.now.label) _) (next _ _ _ _ _ c.in_ok-write_front.ensures.ok (as_text _ _ _ _ (flat_4 (codes " ") (word_by c.args.grant.now.state c.args.grant.now.owed) (codes " lifetime ") (decimal c.args.grant.now.lifetime) _) (next _ _ _ _ _ c.in_ok-write_life.ensures.ok (h))))) c.write_flow_and_join.ensures.err
