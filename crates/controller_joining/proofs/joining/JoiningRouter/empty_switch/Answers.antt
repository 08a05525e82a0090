use Rattle.std.proofs.Common.{ap, sym, subst, ◌∙◌}
use Rattle.adjacency_table.specs.Side.{is_estab}
use Rattle.law_join_facts.proofs.Lasts.{Lasts}
use Rattle.controller_router.specs.Node as node
use Rattle.controller_router.specs.Node.{Node}
use Rattle.controller_joining.specs.Joining.{Joining, acted}
use Rattle.controller_joining.proofs.Kept.{settled_by}
use Rattle.controller_joins.specs.world_model.Meeting.{empties}
use Rattle.law_join_facts.proofs.Spent.{empties_lasts}
use Rattle.controller_joining.proofs.joining.JoiningRouter.empty_switch.Goals as goal

pub returns-clause-joined : goal.returns-clause-joined
returns-clause-joined g c =
    let seen = g.E.PortEngine.seen in
    let a = acted seen c.args.self.now c.args.notes.now c.args.numbers.now in
    let b = acted seen c.settle.new.self c.empty_switch.new.notes c.empty_switch.new.numbers in
    let e = ap (λ (n : Node _). node.acted seen n c.empty_switch.new.notes c.empty_switch.new.numbers) c.settle.ensures.router ∙ c.in_ok-empty_switch.ensures.acted ∙ ap (λ (j : Joining _). empties (acted seen j c.args.notes.now c.args.numbers.now)) c.self.view_is in
    let lasts = subst (Lasts a) (sym e) (empties_lasts a c.stands-stood.ensures.numbers) in
    settled_by a b c.args.self.now.joins c.self.inside.joins c.settle.new.self.joins c.stands-stood.result (is_estab c.empty_switch.new.self.client.adjacency.state) lasts c.requires.joined (c.stands-stood.ensures.estab)
    (ap (λ (n : Node _). is_estab n.client.adjacency.state) (sym c.settle.ensures.router)) (ap (λ (j : Joining _). j.joins) c.self.view_is) c.settle.ensures.joins
