use Rattle.std.proofs.Common.{codes}
use Rattle.std.specs.Prelude.{decimal}
use Rattle.port_labels.specs.Read.{state_from}
use Rattle.script_model.specs.Texts.{label_text}
use Rattle.show_text.specs.Port.{label_state_text}
use Rattle.show_text.specs.Words.{at_text}
use Rattle.lab_text.proofs.Fronts.{as_text, here, next, on_err, said}
use Rattle.record_text.proofs.Parts.{flat_4}
use Rattle.show_text.proofs.Parts.{flat_6}
use Rattle.show_text.proofs.labels.write_label.Goals as goal

pub returns-in_err-write_front-clause-err : goal.returns-in_err-write_front-clause-err
returns-in_err-write_front-clause-err c =
    said c.from_residual.result _ (as_text _ _ _ _ (flat_4 (codes "label ") (at_text c.args.names.now c.args.node c.args.port) (codes " ") (label_text c.args.names.now c.args.label.now.number) _) (here _ _ _ _ c.in_err-write_front.ensures.err))

pub returns-in_err-write_ticks-clause-err : goal.returns-in_err-write_ticks-clause-err
returns-in_err-write_ticks-clause-err c =
    said c.from_residual-in_err-write_ticks.result _ (as_text _ _ _ _ (flat_4 (codes "label ") (at_text c.args.names.now c.args.node c.args.port) (codes " ") (label_text c.args.names.now c.args.label.now.number) _) (next _ _ _ _ _ c.in_ok-write_front.ensures.ok (as_text _ _ _ _ (flat_6 (codes " ") (label_state_text (state_from c.args.label.now.state)) (codes " idle ") (decimal c.args.label.now.idle) (codes " told ") (decimal c.args.label.now.ticks) _) (here _ _ _ _ c.in_err-write_ticks.ensures.err))))

pub returns-clause-err : goal.returns-clause-err
returns-clause-err c =
    on_err c.write_flow_and_join.result _ _ (λ h. as_text _ _ _ _ (flat_4 (codes "label ") (at_text c.args.names.now c.args.node c.args.port) (codes " ") (label_text c.args.names.now c.args.label.now.number) _) (next _ _ _ _ _ c.in_ok-write_front.ensures.ok (as_text _ _ _ _ (flat_6 (codes " ") (label_state_text (state_from c.args.label.now.state)) (codes " idle ") (decimal c.args.label.now.idle) (codes " told ") (decimal c.args.label.now.ticks) _) (next _ _ _ _ _ c.in_ok-write_ticks.ensures.ok (h))))) c.write_flow_and_join.ensures.err
