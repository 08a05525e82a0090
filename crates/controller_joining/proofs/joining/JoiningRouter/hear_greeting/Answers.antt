use Rattle.std.proofs.Common.{ap, sym, subst, ◌∙◌}
use Rattle.adjacency_table.specs.Greeting.{gsmp_answer, gsmp_received}
use Rattle.controller_joins.specs.world_model.Controller.{Acted}
use Rattle.controller_joins.specs.world_model.Gsmp.{answers}
use Rattle.law_join_facts.specs.Joins.{joined_in}
use Rattle.controller_router.specs.Conditions.{CanFollow, turned_to}
use Rattle.controller_joining.specs.Joining.{Joining, acted}
use Rattle.controller_joining.proofs.Kept.{ok_onward}
use Rattle.controller_joining.proofs.joining.JoiningRouter.hear_greeting.Goals as goal

pub follow-requires-clause-joined : goal.follow-requires-clause-joined
follow-requires-clause-joined g c =
    let seen = g.E.PortEngine.seen in
    let a = acted seen c.args.self.now c.args.notes.now c.args.numbers.now in
    let step = gsmp_received a.controller.adjacency c.args.greeting.now in
    let e = c.take_greeting-answer.ensures.acted c.args.notes.now c.args.numbers.now ∙ ap (λ (j : Joining _). turned_to (acted seen j c.args.notes.now c.args.numbers.now) (gsmp_received j.router.client.adjacency c.args.greeting.now)) c.self.view_is in
    let answer = c.take_greeting-answer.ensures.answer ∙ ap (λ (j : Joining _). gsmp_answer (gsmp_received j.router.client.adjacency c.args.greeting.now).answer) c.self.view_is in
    ap (λ (x : Acted). joined_in x.controller) e ∙ c.requires.joined ∙ ap (λ (j : Joining _). j.joins) (sym c.self.view_is)

pub follow-requires-clause-can : goal.follow-requires-clause-can
follow-requires-clause-can g c =
    let seen = g.E.PortEngine.seen in
    let a = acted seen c.args.self.now c.args.notes.now c.args.numbers.now in
    let step = gsmp_received a.controller.adjacency c.args.greeting.now in
    let e = c.take_greeting-answer.ensures.acted c.args.notes.now c.args.numbers.now ∙ ap (λ (j : Joining _). turned_to (acted seen j c.args.notes.now c.args.numbers.now) (gsmp_received j.router.client.adjacency c.args.greeting.now)) c.self.view_is in
    let answer = c.take_greeting-answer.ensures.answer ∙ ap (λ (j : Joining _). gsmp_answer (gsmp_received j.router.client.adjacency c.args.greeting.now).answer) c.self.view_is in
    subst (λ x. CanFollow (acted seen (record { router = c.take_greeting-answer.new.self; joins = c.self.inside.joins }) c.args.notes.now c.args.numbers.now) x) (sym answer) (subst (λ (x : Acted). CanFollow x (gsmp_answer step.answer)) (sym e) c.requires.can)

pub returns-clause-acted : goal.returns-clause-acted
returns-clause-acted g c =
    let seen = g.E.PortEngine.seen in
    let a = acted seen c.args.self.now c.args.notes.now c.args.numbers.now in
    let step = gsmp_received a.controller.adjacency c.args.greeting.now in
    let e = c.take_greeting-answer.ensures.acted c.args.notes.now c.args.numbers.now ∙ ap (λ (j : Joining _). turned_to (acted seen j c.args.notes.now c.args.numbers.now) (gsmp_received j.router.client.adjacency c.args.greeting.now)) c.self.view_is in
    let answer = c.take_greeting-answer.ensures.answer ∙ ap (λ (j : Joining _). gsmp_answer (gsmp_received j.router.client.adjacency c.args.greeting.now).answer) c.self.view_is in
    ok_onward c.follow.result _ _ _ (λ i. answers (e i) (answer i)) c.follow.ensures.acted
