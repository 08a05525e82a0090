use Rattle.std.proofs.Common.{ap, sym, subst, ◌∙◌}
use Rattle.adjacency_table.specs.Greeting.{gsmp_answer}
use Rattle.adjacency_table.specs.Side.{ticked}
use Rattle.controller_joins.specs.world_model.Controller.{Acted}
use Rattle.controller_joins.specs.world_model.Gsmp.{answers}
use Rattle.controller_joins.specs.world_model.Joins.{tries_joins}
use Rattle.controller_joins.specs.world_model.Resets.{node_resets}
use Rattle.controller_joins.specs.world_model.Ticks.{sends_again, ticks_ports}
use Rattle.law_join_facts.specs.Joins.{joined_in}
use Rattle.controller_router.specs.Conditions.{CanResetNode, turned_to}
use Rattle.controller_joining.specs.Conditions.{CanTickOn}
use Rattle.controller_joining.specs.Joining.{Joining, acted}
use Rattle.controller_joining.proofs.Kept.{ok_onward}
use Rattle.controller_joining.proofs.Ticked.{tick_ends, tick_goes}
use Rattle.controller_joining.proofs.joining.JoiningRouter.tick.Goals as goal

pub reset_node-requires : goal.reset_node-requires
reset_node-requires g c =
    let seen = g.E.PortEngine.seen in
    let a = acted seen c.args.self.now c.args.notes.now c.args.numbers.now in
    let e = c.tick_adjacency.ensures.acted c.args.notes.now c.args.numbers.now ∙ ap (λ (j : Joining _). turned_to (acted seen j c.args.notes.now c.args.numbers.now) (ticked j.router.client.adjacency)) c.self.view_is in
    let answer = c.tick_adjacency.ensures.answer ∙ ap (λ (j : Joining _). gsmp_answer (ticked j.router.client.adjacency).answer) c.self.view_is in
    let ends = tick_ends a (sym answer ∙ c.in-Reset.is) c.requires.can in
    record { can = subst CanResetNode (sym (e ∙ ends.turned)) ends.can }

pub returns-in-Reset-clause-acted : goal.returns-in-Reset-clause-acted
returns-in-Reset-clause-acted g c =
    let seen = g.E.PortEngine.seen in
    let a = acted seen c.args.self.now c.args.notes.now c.args.numbers.now in
    let e = c.tick_adjacency.ensures.acted c.args.notes.now c.args.numbers.now ∙ ap (λ (j : Joining _). turned_to (acted seen j c.args.notes.now c.args.numbers.now) (ticked j.router.client.adjacency)) c.self.view_is in
    let answer = c.tick_adjacency.ensures.answer ∙ ap (λ (j : Joining _). gsmp_answer (ticked j.router.client.adjacency).answer) c.self.view_is in
    let ends = tick_ends a (sym answer ∙ c.in-Reset.is) c.requires.can in
    ok_onward c.reset_node.result _ _ _ (ap node_resets (e ∙ ends.turned) ∙ ends.is) c.reset_node.ensures.acted

pub tick_on-requires : goal.tick_on-requires
tick_on-requires g c =
    let seen = g.E.PortEngine.seen in
    let a = acted seen c.args.self.now c.args.notes.now c.args.numbers.now in
    let e = c.tick_adjacency.ensures.acted c.args.notes.now c.args.numbers.now ∙ ap (λ (j : Joining _). turned_to (acted seen j c.args.notes.now c.args.numbers.now) (ticked j.router.client.adjacency)) c.self.view_is in
    let answer = c.tick_adjacency.ensures.answer ∙ ap (λ (j : Joining _). gsmp_answer (ticked j.router.client.adjacency).answer) c.self.view_is in
    let goes = tick_goes a (λ reset. c.in_default.not-Reset (answer ∙ reset)) c.requires.can in
    let b = acted seen (record { router = c.tick_adjacency.new.self; joins = c.self.inside.joins }) c.args.notes.now c.args.numbers.now in
    record {
      joined = ap (λ (x : Acted). joined_in x.controller) e ∙ c.requires.joined ∙ ap (λ (j : Joining _). j.joins) (sym c.self.view_is);
      can = subst (CanTickOn b) (sym answer) (subst (λ (x : Acted). CanTickOn x (gsmp_answer (ticked a.controller.adjacency).answer)) (sym e) goes.can);
    }

pub returns-in_default : goal.returns-in_default
returns-in_default g c =
    let seen = g.E.PortEngine.seen in
    let a = acted seen c.args.self.now c.args.notes.now c.args.numbers.now in
    let e = c.tick_adjacency.ensures.acted c.args.notes.now c.args.numbers.now ∙ ap (λ (j : Joining _). turned_to (acted seen j c.args.notes.now c.args.numbers.now) (ticked j.router.client.adjacency)) c.self.view_is in
    let answer = c.tick_adjacency.ensures.answer ∙ ap (λ (j : Joining _). gsmp_answer (ticked j.router.client.adjacency).answer) c.self.view_is in
    let goes = tick_goes a (λ reset. c.in_default.not-Reset (answer ∙ reset)) c.requires.can in
    record {
      acted = ok_onward c.tick_on.result _ _ _ ((λ i. tries_joins (ticks_ports (sends_again (answers (e i) (answer i))))) ∙ goes.is) c.tick_on.ensures.acted;
      joined = c.tick_on.ensures.joined;
    }
