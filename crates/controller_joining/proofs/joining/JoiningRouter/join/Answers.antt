use Rattle.std.proofs.Common.{Option, Some, IsSome, refl, ap, sym, subst, ◌∙◌}
use Rattle.keyed_lists.specs.Keyed.{entered as entered_in}
use Rattle.adjacency_table.specs.Side.{is_estab}
use Rattle.port_model.specs.Joins as port_joins
use Rattle.controller_joins.specs.world_model.Controller.{Acted, Linked, linked_at}
use Rattle.controller_joins.specs.world_model.Joins.{Join, enters_grant, joins}
use Rattle.controller_joins.specs.world_model.Performing.{at_port}
use Rattle.law_join_facts.proofs.Comes.{le}
use Rattle.law_join_facts.proofs.Lasts.{Lasts}
use Rattle.controller_router.specs.Node as node
use Rattle.controller_router.specs.Node.{Node}
use Rattle.controller_joining.specs.Conditions.{entered}
use Rattle.controller_joining.specs.Joining.{Joining, acted}
use Rattle.controller_joining.proofs.Kept.{settled_by}
use Rattle.controller_joining.proofs.Tried.{ask_ok, asked_is, enter_ok, found_at, free_ok, granted_at, it_enters, its_join, joins_lasts, label_is, lent_is}
use Rattle.controller_joining.proofs.joining.JoiningRouter.join.Goals as goal

pub enter-requires : goal.enter-requires
enter-requires g c =
    let a = acted g.E.PortEngine.seen c.args.self.now c.args.notes.now c.args.numbers.now in
    enter_ok a c.args.label c.args.joined c.requires.join c.self.inside.joins (c.requires.joined ∙ ap (λ (j : Joining _). j.joins) (sym c.self.view_is))

pub lend-requires-clause-linked : goal.lend-requires-clause-linked
lend-requires-clause-linked g c =
    let seen = g.E.PortEngine.seen in
    let a = acted seen c.args.self.now c.args.notes.now c.args.numbers.now in
    let found = ap (λ (j : Joining _). linked_at (node.controller_of seen j.router) c.args.joined.port) c.self.view_is ∙ found_at a c.args.label c.args.joined c.requires.join in
    subst (λ (o : Option Linked). IsSome o) (sym found) refl

pub join_label-requires : goal.join_label-requires
join_label-requires g c =
    let seen = g.E.PortEngine.seen in
    let a = acted seen c.args.self.now c.args.notes.now c.args.numbers.now in
    let p = c.requires.join in
    let e1 = c.lend.ensures.acted c.args.notes.now c.args.numbers.now p.can.grant.linked p.join.grant
    (ap (λ (j : Joining _). linked_at (node.controller_of seen j.router) c.args.joined.port) c.self.view_is ∙ found_at a c.args.label c.args.joined p) (granted_at a c.args.label c.args.joined p)
    ∙ ap (λ (j : Joining _). at_port (acted seen j c.args.notes.now c.args.numbers.now) c.args.joined.port (λ setup desk w. port_joins.lent w p.join.grant c.args.joined.input)) c.self.view_is
    ∙ lent_is a c.args.label c.args.joined p in
    free_ok a c.args.label c.args.joined p (node.acted seen c.lend.new.self c.args.notes.now c.args.numbers.now) e1

pub ask-requires : goal.ask-requires
ask-requires g c =
    let seen = g.E.PortEngine.seen in
    let a = acted seen c.args.self.now c.args.notes.now c.args.numbers.now in
    let p = c.requires.join in
    let e1 = c.lend.ensures.acted c.args.notes.now c.args.numbers.now p.can.grant.linked p.join.grant
    (ap (λ (j : Joining _). linked_at (node.controller_of seen j.router) c.args.joined.port) c.self.view_is ∙ found_at a c.args.label c.args.joined p) (granted_at a c.args.label c.args.joined p)
    ∙ ap (λ (j : Joining _). at_port (acted seen j c.args.notes.now c.args.numbers.now) c.args.joined.port (λ setup desk w. port_joins.lent w p.join.grant c.args.joined.input)) c.self.view_is
    ∙ lent_is a c.args.label c.args.joined p in
    let e2 = c.join_label.ensures.acted c.args.notes.now c.args.numbers.now
    ∙ ap (λ (x : Acted). at_port x c.args.joined.input.port (λ setup desk w. port_joins.joined w c.args.label c.output_of-output.result)) e1
    ∙ label_is a c.args.label c.args.joined p (enters_grant a p.join) c.output_of-output.result c.output_of-output.ensures in
    ask_ok a c.args.label c.args.joined p (node.acted seen c.join_label.new.self c.args.notes.now c.args.numbers.now) c.home_of.result c.output_of-output.result e2 c.home_of.ensures c.output_of-output.ensures

pub returns-clause-acted : goal.returns-clause-acted
returns-clause-acted g c = λ join is grant.
    let seen = g.E.PortEngine.seen in
    let a = acted seen c.args.self.now c.args.notes.now c.args.numbers.now in
    let p = c.requires.join in
    let e1 = c.lend.ensures.acted c.args.notes.now c.args.numbers.now p.can.grant.linked p.join.grant
    (ap (λ (j : Joining _). linked_at (node.controller_of seen j.router) c.args.joined.port) c.self.view_is ∙ found_at a c.args.label c.args.joined p) (granted_at a c.args.label c.args.joined p)
    ∙ ap (λ (j : Joining _). at_port (acted seen j c.args.notes.now c.args.numbers.now) c.args.joined.port (λ setup desk w. port_joins.lent w p.join.grant c.args.joined.input)) c.self.view_is
    ∙ lent_is a c.args.label c.args.joined p in
    let e2 = c.join_label.ensures.acted c.args.notes.now c.args.numbers.now
    ∙ ap (λ (x : Acted). at_port x c.args.joined.input.port (λ setup desk w. port_joins.joined w c.args.label c.output_of-output.result)) e1
    ∙ label_is a c.args.label c.args.joined p (enters_grant a p.join) c.output_of-output.result c.output_of-output.ensures in
    let e3 = ap (λ (n : Node _). node.acted seen n c.ask.new.notes c.ask.new.numbers) c.settle.ensures.router ∙ c.in_ok-ask.ensures.acted
    ∙ asked_is a c.args.label c.args.joined p (node.acted seen c.join_label.new.self c.args.notes.now c.args.numbers.now) c.home_of.result c.output_of-output.result e2 c.home_of.ensures c.output_of-output.ensures in
    e3 ∙ ap (λ (x : Join). joins a (Some x)) (its_join a c.args.label c.args.joined p join is grant)

pub returns-clause-joined : goal.returns-clause-joined
returns-clause-joined g c =
    let seen = g.E.PortEngine.seen in
    let a = acted seen c.args.self.now c.args.notes.now c.args.numbers.now in
    let p = c.requires.join in
    let e1 = c.lend.ensures.acted c.args.notes.now c.args.numbers.now p.can.grant.linked p.join.grant
    (ap (λ (j : Joining _). linked_at (node.controller_of seen j.router) c.args.joined.port) c.self.view_is ∙ found_at a c.args.label c.args.joined p) (granted_at a c.args.label c.args.joined p)
    ∙ ap (λ (j : Joining _). at_port (acted seen j c.args.notes.now c.args.numbers.now) c.args.joined.port (λ setup desk w. port_joins.lent w p.join.grant c.args.joined.input)) c.self.view_is
    ∙ lent_is a c.args.label c.args.joined p in
    let e2 = c.join_label.ensures.acted c.args.notes.now c.args.numbers.now
    ∙ ap (λ (x : Acted). at_port x c.args.joined.input.port (λ setup desk w. port_joins.joined w c.args.label c.output_of-output.result)) e1
    ∙ label_is a c.args.label c.args.joined p (enters_grant a p.join) c.output_of-output.result c.output_of-output.ensures in
    let e3 = ap (λ (n : Node _). node.acted seen n c.ask.new.notes c.ask.new.numbers) c.settle.ensures.router ∙ c.in_ok-ask.ensures.acted
    ∙ asked_is a c.args.label c.args.joined p (node.acted seen c.join_label.new.self c.args.notes.now c.args.numbers.now) c.home_of.result c.output_of-output.result e2 c.home_of.ensures c.output_of-output.ensures in
    let u = entered a p.join in
    let b = acted seen c.settle.new.self c.ask.new.notes c.ask.new.numbers in
    let enters = it_enters a c.args.label c.args.joined p in
    let before = c.requires.joined ∙ ap (λ (j : Joining _). j.joins) (sym c.self.view_is) in
    let joined = enters.joined ∙ (λ i. entered_in le (p.is i) (before i)) ∙ sym c.in_ok-enter.ensures.ok in
    let lasts = subst (Lasts u) (sym e3) (joins_lasts a c.args.label c.args.joined p c.stands-stood.ensures.numbers) in
    settled_by u b c.enter.new.self c.enter.new.self c.settle.new.self.joins c.stands-stood.result (is_estab c.ask.new.self.client.adjacency.state) lasts joined (c.stands-stood.ensures.estab ∙ sym enters.estab)
    (ap (λ (n : Node _). is_estab n.client.adjacency.state) (sym c.settle.ensures.router)) refl c.settle.ensures.joins
