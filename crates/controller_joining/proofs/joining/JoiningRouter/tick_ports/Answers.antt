use Rattle.std.proofs.Common.{ap, sym, subst, ◌∙◌}
use Rattle.adjacency_table.specs.Side.{is_estab}
use Rattle.law_join_facts.proofs.Lasts.{Lasts}
use Rattle.controller_router.specs.Node as node
use Rattle.controller_router.specs.Node.{Node}
use Rattle.controller_joining.specs.Joining.{Joining, acted}
use Rattle.controller_joining.proofs.Kept.{settled_by}
use Rattle.controller_joins.specs.world_model.Controller.{ports_of}
use Rattle.controller_joins.specs.world_model.Ticks.{ticks_ports}
use Rattle.controller_router.specs.Conditions.{EachCanTick}
use Rattle.controller_joining.specs.Conditions.{EachCanTickOn}
use Rattle.controller_joining.proofs.Ticked.{all_ticked, each_can}
use Rattle.controller_joining.proofs.joining.JoiningRouter.tick_ports.Goals as goal

pub tick_ports-requires : goal.tick_ports-requires
tick_ports-requires g c =
    let seen = g.E.PortEngine.seen in
    subst (λ (j : Joining _). EachCanTick (acted seen j c.args.notes.now c.args.numbers.now) (node.ports_in seen j.router)) (sym c.self.view_is)
    (each_can (acted seen c.args.self.now c.args.notes.now c.args.numbers.now) (node.ports_in seen c.args.self.now.router) (subst (EachCanTickOn (acted seen c.args.self.now c.args.notes.now c.args.numbers.now)) c.stands-stood.ensures.linked c.requires.can))

pub returns-clause-joined : goal.returns-clause-joined
returns-clause-joined g c =
    let seen = g.E.PortEngine.seen in
    let a = acted seen c.args.self.now c.args.notes.now c.args.numbers.now in
    let b = acted seen c.settle.new.self c.tick_ports.new.notes c.tick_ports.new.numbers in
    let e = ap (λ (n : Node _). node.acted seen n c.tick_ports.new.notes c.tick_ports.new.numbers) c.settle.ensures.router ∙ c.in_ok-tick_ports.ensures.acted ∙ ap (λ (j : Joining _). ticks_ports (acted seen j c.args.notes.now c.args.numbers.now)) c.self.view_is in
    let lasts = subst (Lasts a) (sym e) (all_ticked a (ports_of a.controller) c.requires.can c.stands-stood.ensures.numbers) in
    settled_by a b c.args.self.now.joins c.self.inside.joins c.settle.new.self.joins c.stands-stood.result (is_estab c.tick_ports.new.self.client.adjacency.state) lasts c.requires.joined (c.stands-stood.ensures.estab)
    (ap (λ (n : Node _). is_estab n.client.adjacency.state) (sym c.settle.ensures.router)) (ap (λ (j : Joining _). j.joins) c.self.view_is) c.settle.ensures.joins
