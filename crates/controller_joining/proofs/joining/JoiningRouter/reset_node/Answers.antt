use Rattle.std.proofs.Common.{ap, sym, ◌∙◌}
use Rattle.keyed_lists.specs.Keyed.{in_order}
use Rattle.controller_joins.specs.world_model.Controller.{Acted}
use Rattle.controller_joins.specs.world_model.Resets.{node_resets}
use Rattle.law_join_facts.proofs.Comes.{le}
use Rattle.law_join_facts.proofs.Flat.{joined_is}
use Rattle.law_join_facts.proofs.Lasts.{joined_to, node_reset}
use Rattle.controller_router.specs.Node as node
use Rattle.controller_joining.specs.Joining.{Joining, acted}
use Rattle.controller_joining.proofs.joining.JoiningRouter.reset_node.Goals as goal

pub returns-clause-joined : goal.returns-clause-joined
returns-clause-joined g c =
    let seen = g.E.PortEngine.seen in
    let a = acted seen c.args.self.now c.args.notes.now c.args.numbers.now in
    let b = node.acted seen c.reset_node.new.self c.reset_node.new.notes c.reset_node.new.numbers in
    let e = c.in_ok-reset_node.ensures.acted ∙ ap (λ (j : Joining _). node_resets (acted seen j c.args.notes.now c.args.numbers.now)) c.self.view_is in
    joined_is b.controller ∙ ap (in_order le) (ap (λ (x : Acted). joined_to x) e ∙ (node_reset a c.stands-stood.ensures.numbers).joined) ∙ sym c.clear.ensures
