use Rattle.std.proofs.Common.{codes, ◌++◌}
use Rattle.show_text.specs.Node.{address_of}
use Rattle.show_text.specs.Words.{slots_text, state_text}
use Rattle.script_model.specs.Texts.{name_of}
use Rattle.lab_text.proofs.Fronts.{as_text, here, next, on_err, said}
use Rattle.record_text.proofs.Parts.{flat_3}
use Rattle.show_text.proofs.node.write_node.Goals as goal

pub returns-in_err-write_head-clause-err : goal.returns-in_err-write_head-clause-err
returns-in_err-write_head-clause-err c =
    said c.from_residual.result _ (as_text _ _ _ _ (flat_3 (codes "node ") (name_of c.args.names.now c.args.node) (codes " ") (address_of c.args.names.now c.args.node ++ (codes " " ++ (state_text c.args.state ++ (slots_text c.args.free c.args.cells ++ codes "\n"))))) (here _ _ _ _ c.in_err-write_head.ensures.err))

pub returns-in_err-write_address_of-clause-err : goal.returns-in_err-write_address_of-clause-err
returns-in_err-write_address_of-clause-err c =
    said c.from_residual-in_err-write_address_of.result _ (as_text _ _ _ _ (flat_3 (codes "node ") (name_of c.args.names.now c.args.node) (codes " ") (address_of c.args.names.now c.args.node ++ (codes " " ++ (state_text c.args.state ++ (slots_text c.args.free c.args.cells ++ codes "\n"))))) (next _ _ _ _ _ c.in_ok-write_head.ensures.ok (here _ _ _ _ c.in_err-write_address_of.ensures.err)))

pub returns-clause-err : goal.returns-clause-err
returns-clause-err c =
    on_err c.write_condition.result _ _ (λ h. as_text _ _ _ _ (flat_3 (codes "node ") (name_of c.args.names.now c.args.node) (codes " ") (address_of c.args.names.now c.args.node ++ (codes " " ++ (state_text c.args.state ++ (slots_text c.args.free c.args.cells ++ codes "\n"))))) (next _ _ _ _ _ c.in_ok-write_head.ensures.ok (next _ _ _ _ _ c.in_ok-write_address_of.ensures.ok h))) c.write_condition.ensures.err
