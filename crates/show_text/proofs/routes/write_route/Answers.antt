use Rattle.std.proofs.Common.{codes, ◌++◌}
use Rattle.show_text.specs.Node.{next_text}
use Rattle.script_model.specs.Texts.{name_of, prefix_text}
use Rattle.lab_text.proofs.Fronts.{as_text, begun, here, next, on_err, said}
use Rattle.record_text.proofs.Parts.{flat_3}
use Rattle.show_text.proofs.routes.write_route.Goals as goal

pub returns-in_err-write_head-clause-err : goal.returns-in_err-write_head-clause-err
returns-in_err-write_head-clause-err c =
    said c.from_residual.result _ (as_text _ _ _ _ (flat_3 (codes "route ") (name_of c.args.names.now c.args.node) (codes " ") (prefix_text c.args.route.now.prefix ++ (codes " " ++ (next_text c.args.route.now.next ++ codes "\n")))) (here _ _ _ _ c.in_err-write_head.ensures.err))

pub returns-in_err-write_prefix-clause-err : goal.returns-in_err-write_prefix-clause-err
returns-in_err-write_prefix-clause-err c =
    said c.from_residual-in_err-write_prefix.result _ (as_text _ _ _ _ (flat_3 (codes "route ") (name_of c.args.names.now c.args.node) (codes " ") (prefix_text c.args.route.now.prefix ++ (codes " " ++ (next_text c.args.route.now.next ++ codes "\n")))) (next _ _ _ _ _ c.in_ok-write_head.ensures.ok (here _ _ _ _ c.in_err-write_prefix.ensures.err)))

pub returns-in_err-text-clause-err : goal.returns-in_err-text-clause-err
returns-in_err-text-clause-err c =
    said c.from_residual-in_err-text.result _ (as_text _ _ _ _ (flat_3 (codes "route ") (name_of c.args.names.now c.args.node) (codes " ") (prefix_text c.args.route.now.prefix ++ (codes " " ++ (next_text c.args.route.now.next ++ codes "\n")))) (next _ _ _ _ _ c.in_ok-write_head.ensures.ok (next _ _ _ _ _ c.in_ok-write_prefix.ensures.ok (begun _ _ _ c.in_err-text.ensures.err))))

pub returns-in_err-write_next-clause-err : goal.returns-in_err-write_next-clause-err
returns-in_err-write_next-clause-err c =
    said c.from_residual-in_err-write_next.result _ (as_text _ _ _ _ (flat_3 (codes "route ") (name_of c.args.names.now c.args.node) (codes " ") (prefix_text c.args.route.now.prefix ++ (codes " " ++ (next_text c.args.route.now.next ++ codes "\n")))) (next _ _ _ _ _ c.in_ok-write_head.ensures.ok (next _ _ _ _ _ c.in_ok-write_prefix.ensures.ok (next _ _ _ _ _ c.in_ok-text.ensures.ok (here _ _ _ _ c.in_err-write_next.ensures.err)))))

pub returns-clause-err : goal.returns-clause-err
returns-clause-err c =
    on_err c.text-2.result _ _ (λ h. as_text _ _ _ _ (flat_3 (codes "route ") (name_of c.args.names.now c.args.node) (codes " ") (prefix_text c.args.route.now.prefix ++ (codes " " ++ (next_text c.args.route.now.next ++ codes "\n")))) (next _ _ _ _ _ c.in_ok-write_head.ensures.ok (next _ _ _ _ _ c.in_ok-write_prefix.ensures.ok (next _ _ _ _ _ c.in_ok-text.ensures.ok (next _ _ _ _ _ c.in_ok-write_next.ensures.ok (begun _ _ _ h)))))) c.text-2.ensures.err
