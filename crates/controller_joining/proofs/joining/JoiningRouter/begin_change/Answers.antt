use Rattle.std.proofs.Common.{Bool, fold, refl, ap, sym, subst, ◌∙◌, if◌then◌else◌}
use Rattle.adjacency_table.specs.Side.{is_estab}
use Rattle.controller_joins.specs.world_model.Controller.{Acted}
use Rattle.controller_joins.specs.world_model.Changes.{changed_joins, takes_join_back}
use Rattle.law_join_facts.specs.Joins.{HaveNumbers, joined_in}
use Rattle.law_join_facts.proofs.Changing.{Begun, begins_keeps, begins_lasts}
use Rattle.law_join_facts.proofs.Lasts.{Lasts}
use Rattle.controller_router.specs.Meeting.{with_begun}
use Rattle.controller_router.specs.Node as node
use Rattle.controller_router.specs.Node.{Node}
use Rattle.controller_joining.specs.Conditions.{EachCanBeTakenBack, HasGrants}
use Rattle.controller_joining.specs.Joining.{Joining, acted}
use Rattle.controller_joining.proofs.Changes.{grants_on}
use Rattle.controller_joining.proofs.Kept.{settled_by}
use Rattle.controller_joining.proofs.joining.JoiningRouter.begin_change.Goals as goal

pub take_joins_back-requires-clause-joined : goal.take_joins_back-requires-clause-joined
take_joins_back-requires-clause-joined g c =
    let seen = g.E.PortEngine.seen in
    let a = acted seen c.args.self.now c.args.notes.now c.args.numbers.now in
    let e1 = c.begin_change.ensures.acted c.args.notes.now c.args.numbers.now ∙ ap (λ (j : Joining _). with_begun (acted seen j c.args.notes.now c.args.numbers.now)) c.self.view_is in
    ap (λ (x : Acted). joined_in x.controller) e1 ∙ c.requires.joined ∙ ap (λ (j : Joining _). j.joins) (sym c.self.view_is)

pub take_joins_back-requires-clause-numbers : goal.take_joins_back-requires-clause-numbers
take_joins_back-requires-clause-numbers g c =
    let seen = g.E.PortEngine.seen in
    let a = acted seen c.args.self.now c.args.notes.now c.args.numbers.now in
    let e1 = c.begin_change.ensures.acted c.args.notes.now c.args.numbers.now ∙ ap (λ (j : Joining _). with_begun (acted seen j c.args.notes.now c.args.numbers.now)) c.self.view_is in
    subst (λ (x : Acted). HaveNumbers x.controller) (sym e1) c.stands-stood.ensures.numbers

pub take_joins_back-requires-clause-grants : goal.take_joins_back-requires-clause-grants
take_joins_back-requires-clause-grants g c =
    let seen = g.E.PortEngine.seen in
    let a = acted seen c.args.self.now c.args.notes.now c.args.numbers.now in
    let e1 = c.begin_change.ensures.acted c.args.notes.now c.args.numbers.now ∙ ap (λ (j : Joining _). with_begun (acted seen j c.args.notes.now c.args.numbers.now)) c.self.view_is in
    subst (λ (x : Acted). HasGrants x.controller) (sym e1) (grants_on a.controller (with_begun a).controller refl c.requires.grants)

pub take_joins_back-requires-clause-can : goal.take_joins_back-requires-clause-can
take_joins_back-requires-clause-can g c =
    let seen = g.E.PortEngine.seen in
    let a = acted seen c.args.self.now c.args.notes.now c.args.numbers.now in
    let e1 = c.begin_change.ensures.acted c.args.notes.now c.args.numbers.now ∙ ap (λ (j : Joining _). with_begun (acted seen j c.args.notes.now c.args.numbers.now)) c.self.view_is in
    let fresh = ap (λ (j : Joining _). j.router.routes.is_begun) (sym c.self.view_is) ∙ ap (λ x. x.is_begun) (sym c.routes.ensures) ∙ sym c.is_begun.ensures ∙ c.if-is_begun.false in
    subst (λ (x : Acted). EachCanBeTakenBack x (changed_joins x.controller c.args.change.now)) (sym e1) (c.requires.can fresh)

pub returns-clause-acted : goal.returns-clause-acted
returns-clause-acted g c =
    let seen = g.E.PortEngine.seen in
    let a = acted seen c.args.self.now c.args.notes.now c.args.numbers.now in
    let e1 = c.begin_change.ensures.acted c.args.notes.now c.args.numbers.now ∙ ap (λ (j : Joining _). with_begun (acted seen j c.args.notes.now c.args.numbers.now)) c.self.view_is in
    let e2 = ap (λ (n : Node _). node.acted seen n c.take_joins_back.new.notes c.take_joins_back.new.numbers) c.settle.ensures.router ∙ c.in_ok-take_joins_back.ensures.acted
    ∙ ap (λ (x : Acted). fold takes_join_back x (changed_joins x.controller c.args.change.now)) e1 in
    let fresh = ap (λ (j : Joining _). j.router.routes.is_begun) (sym c.self.view_is) ∙ ap (λ x. x.is_begun) (sym c.routes.ensures) ∙ sym c.is_begun.ensures ∙ c.if-is_begun.false in
    let e = e2 ∙ sym (ap (λ (t : Bool). if t then a else fold takes_join_back (with_begun a) (changed_joins a.controller c.args.change.now)) fresh) in
    e

pub returns-clause-joined : goal.returns-clause-joined
returns-clause-joined g c =
    let seen = g.E.PortEngine.seen in
    let a = acted seen c.args.self.now c.args.notes.now c.args.numbers.now in
    let e1 = c.begin_change.ensures.acted c.args.notes.now c.args.numbers.now ∙ ap (λ (j : Joining _). with_begun (acted seen j c.args.notes.now c.args.numbers.now)) c.self.view_is in
    let e2 = ap (λ (n : Node _). node.acted seen n c.take_joins_back.new.notes c.take_joins_back.new.numbers) c.settle.ensures.router ∙ c.in_ok-take_joins_back.ensures.acted
    ∙ ap (λ (x : Acted). fold takes_join_back x (changed_joins x.controller c.args.change.now)) e1 in
    let fresh = ap (λ (j : Joining _). j.router.routes.is_begun) (sym c.self.view_is) ∙ ap (λ x. x.is_begun) (sym c.routes.ensures) ∙ sym c.is_begun.ensures ∙ c.if-is_begun.false in
    let e = e2 ∙ sym (ap (λ (t : Bool). if t then a else fold takes_join_back (with_begun a) (changed_joins a.controller c.args.change.now)) fresh) in
    let b = acted seen c.settle.new.self c.take_joins_back.new.notes c.take_joins_back.new.numbers in
    let lasts = subst (Lasts a) (sym e) (begins_lasts a c.args.change.now c.stands-stood.ensures.numbers) in
    settled_by a b c.args.self.now.joins c.take_joins_back.new.self.joins c.settle.new.self.joins c.stands-stood.result (is_estab c.take_joins_back.new.self.router.client.adjacency.state) lasts c.requires.joined c.stands-stood.ensures.estab
    (ap (λ (n : Node _). is_estab n.client.adjacency.state) (sym c.settle.ensures.router)) (c.take_joins_back.ensures.joins ∙ ap (λ (j : Joining _). j.joins) c.self.view_is) c.settle.ensures.joins

pub returns-clause-ports : goal.returns-clause-ports
returns-clause-ports g c =
    let seen = g.E.PortEngine.seen in
    let a = acted seen c.args.self.now c.args.notes.now c.args.numbers.now in
    let e1 = c.begin_change.ensures.acted c.args.notes.now c.args.numbers.now ∙ ap (λ (j : Joining _). with_begun (acted seen j c.args.notes.now c.args.numbers.now)) c.self.view_is in
    let e2 = ap (λ (n : Node _). node.acted seen n c.take_joins_back.new.notes c.take_joins_back.new.numbers) c.settle.ensures.router ∙ c.in_ok-take_joins_back.ensures.acted
    ∙ ap (λ (x : Acted). fold takes_join_back x (changed_joins x.controller c.args.change.now)) e1 in
    let fresh = ap (λ (j : Joining _). j.router.routes.is_begun) (sym c.self.view_is) ∙ ap (λ x. x.is_begun) (sym c.routes.ensures) ∙ sym c.is_begun.ensures ∙ c.if-is_begun.false in
    let e = e2 ∙ sym (ap (λ (t : Bool). if t then a else fold takes_join_back (with_begun a) (changed_joins a.controller c.args.change.now)) fresh) in
    let b = acted seen c.settle.new.self c.take_joins_back.new.notes c.take_joins_back.new.numbers in
    (subst (Begun a) (sym e) (begins_keeps a c.args.change.now c.stands-stood.ensures.numbers)).ports

pub returns-clause-waiting : goal.returns-clause-waiting
returns-clause-waiting g c =
    let seen = g.E.PortEngine.seen in
    let a = acted seen c.args.self.now c.args.notes.now c.args.numbers.now in
    let e1 = c.begin_change.ensures.acted c.args.notes.now c.args.numbers.now ∙ ap (λ (j : Joining _). with_begun (acted seen j c.args.notes.now c.args.numbers.now)) c.self.view_is in
    let e2 = ap (λ (n : Node _). node.acted seen n c.take_joins_back.new.notes c.take_joins_back.new.numbers) c.settle.ensures.router ∙ c.in_ok-take_joins_back.ensures.acted
    ∙ ap (λ (x : Acted). fold takes_join_back x (changed_joins x.controller c.args.change.now)) e1 in
    let fresh = ap (λ (j : Joining _). j.router.routes.is_begun) (sym c.self.view_is) ∙ ap (λ x. x.is_begun) (sym c.routes.ensures) ∙ sym c.is_begun.ensures ∙ c.if-is_begun.false in
    let e = e2 ∙ sym (ap (λ (t : Bool). if t then a else fold takes_join_back (with_begun a) (changed_joins a.controller c.args.change.now)) fresh) in
    let b = acted seen c.settle.new.self c.take_joins_back.new.notes c.take_joins_back.new.numbers in
    (subst (Begun a) (sym e) (begins_keeps a c.args.change.now c.stands-stood.ensures.numbers)).waiting
