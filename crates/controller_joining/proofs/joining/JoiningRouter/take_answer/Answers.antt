use Rattle.std.proofs.Common.{ap, sym, subst, ◌∙◌}
use Rattle.gsmp_wire.specs.declared.request.Request.{Request}
use Rattle.port_model.specs.DeskAnswers.{after_answer, answered}
use Rattle.port_model.specs.Desk.{Standing}
use Rattle.controller_requests.specs.Answers.{told}
use Rattle.controller_joins.specs.world_model.Controller.{Acted, with_desk}
use Rattle.controller_joins.specs.world_model.Meeting.{answers_desk, takes_success, empties}
use Rattle.controller_joins.specs.world_model.Resets.{node_resets}
use Rattle.law_join_facts.specs.Joins.{joined_in}
use Rattle.controller_router.specs.Conditions.{CanResetNode}
use Rattle.controller_router.specs.Meeting.{CanEmpty}
use Rattle.controller_joining.specs.Answers.{CanFinish, CanGoOnFrom}
use Rattle.controller_joining.specs.Joining.{Joining, acted}
use Rattle.controller_joining.proofs.Kept.{ok_onward}
use Rattle.controller_joining.proofs.Told.{done_is, failed_is, ports_are, unknown_is}
use Rattle.controller_joining.proofs.joining.JoiningRouter.take_answer.Goals as goal

pub finish-result-requires-clause-joined : goal.finish-result-requires-clause-joined
finish-result-requires-clause-joined g c =
    let seen = g.E.PortEngine.seen in
    let a = acted seen c.args.self.now c.args.notes.now c.args.numbers.now in
    let ans = answered a.controller.desk c.args.message.now in
    let b = with_desk a (after_answer a.controller.desk ans) in
    let e = c.take_answer.ensures.acted c.args.notes.now c.args.numbers.now
    ∙ ap (λ (j : Joining _). with_desk (acted seen j c.args.notes.now c.args.numbers.now) (after_answer j.router.client.desk (answered j.router.client.desk c.args.message.now))) c.self.view_is in
    let same = ap (λ (j : Joining _). told (answered j.router.client.desk c.args.message.now)) c.self.view_is in
    ap (λ (x : Acted). joined_in x.controller) e ∙ c.requires.joined ∙ ap (λ (j : Joining _). j.joins) (sym c.self.view_is)

pub finish-result-requires-clause-can : goal.finish-result-requires-clause-can
finish-result-requires-clause-can g c =
    let seen = g.E.PortEngine.seen in
    let a = acted seen c.args.self.now c.args.notes.now c.args.numbers.now in
    let ans = answered a.controller.desk c.args.message.now in
    let b = with_desk a (after_answer a.controller.desk ans) in
    let e = c.take_answer.ensures.acted c.args.notes.now c.args.numbers.now
    ∙ ap (λ (j : Joining _). with_desk (acted seen j c.args.notes.now c.args.numbers.now) (after_answer j.router.client.desk (answered j.router.client.desk c.args.message.now))) c.self.view_is in
    let same = ap (λ (j : Joining _). told (answered j.router.client.desk c.args.message.now)) c.self.view_is in
    let is = done_is ans c.in-Done.done (c.in-Done.ensures.answer ∙ same) in
    let its = ap (λ (s : Standing). s.request) c.done.ensures in
    let can : CanFinish b c.in-Done.done.request = subst (CanGoOnFrom b) is c.requires.can in
    subst (λ (r : Request). CanFinish (acted seen (record { router = c.take_answer.new.self; joins = c.self.inside.joins }) c.args.notes.now c.args.numbers.now) r) (sym its) (subst (λ (x : Acted). CanFinish x c.in-Done.done.request) (sym e) can)

pub empty_switch-requires-clause-joined : goal.empty_switch-requires-clause-joined
empty_switch-requires-clause-joined g c =
    let seen = g.E.PortEngine.seen in
    let a = acted seen c.args.self.now c.args.notes.now c.args.numbers.now in
    let ans = answered a.controller.desk c.args.message.now in
    let b = with_desk a (after_answer a.controller.desk ans) in
    let e = c.take_answer.ensures.acted c.args.notes.now c.args.numbers.now
    ∙ ap (λ (j : Joining _). with_desk (acted seen j c.args.notes.now c.args.numbers.now) (after_answer j.router.client.desk (answered j.router.client.desk c.args.message.now))) c.self.view_is in
    let same = ap (λ (j : Joining _). told (answered j.router.client.desk c.args.message.now)) c.self.view_is in
    ap (λ (x : Acted). joined_in x.controller) e ∙ c.requires.joined ∙ ap (λ (j : Joining _). j.joins) (sym c.self.view_is)

pub empty_switch-requires-clause-can : goal.empty_switch-requires-clause-can
empty_switch-requires-clause-can g c =
    let seen = g.E.PortEngine.seen in
    let a = acted seen c.args.self.now c.args.notes.now c.args.numbers.now in
    let ans = answered a.controller.desk c.args.message.now in
    let b = with_desk a (after_answer a.controller.desk ans) in
    let e = c.take_answer.ensures.acted c.args.notes.now c.args.numbers.now
    ∙ ap (λ (j : Joining _). with_desk (acted seen j c.args.notes.now c.args.numbers.now) (after_answer j.router.client.desk (answered j.router.client.desk c.args.message.now))) c.self.view_is in
    let same = ap (λ (j : Joining _). told (answered j.router.client.desk c.args.message.now)) c.self.view_is in
    let p = ports_are ans _ _ (c.in-Ports.ensures.answer ∙ same) in
    subst CanEmpty (sym e) (subst (CanGoOnFrom b) p.is c.requires.can)

pub reset_node-requires : goal.reset_node-requires
reset_node-requires g c =
    let seen = g.E.PortEngine.seen in
    let a = acted seen c.args.self.now c.args.notes.now c.args.numbers.now in
    let ans = answered a.controller.desk c.args.message.now in
    let b = with_desk a (after_answer a.controller.desk ans) in
    let e = c.take_answer.ensures.acted c.args.notes.now c.args.numbers.now
    ∙ ap (λ (j : Joining _). with_desk (acted seen j c.args.notes.now c.args.numbers.now) (after_answer j.router.client.desk (answered j.router.client.desk c.args.message.now))) c.self.view_is in
    let same = ap (λ (j : Joining _). told (answered j.router.client.desk c.args.message.now)) c.self.view_is in
    let f = failed_is ans _ _ (c.in-Failed.ensures.answer ∙ same) in
    record { can = subst CanResetNode (sym e) (subst (CanGoOnFrom b) f.is c.requires.can) }

pub returns-in-Unknown-clause-acted : goal.returns-in-Unknown-clause-acted
returns-in-Unknown-clause-acted g c =
    let seen = g.E.PortEngine.seen in
    let a = acted seen c.args.self.now c.args.notes.now c.args.numbers.now in
    let ans = answered a.controller.desk c.args.message.now in
    let b = with_desk a (after_answer a.controller.desk ans) in
    let e = c.take_answer.ensures.acted c.args.notes.now c.args.numbers.now
    ∙ ap (λ (j : Joining _). with_desk (acted seen j c.args.notes.now c.args.numbers.now) (after_answer j.router.client.desk (answered j.router.client.desk c.args.message.now))) c.self.view_is in
    let same = ap (λ (j : Joining _). told (answered j.router.client.desk c.args.message.now)) c.self.view_is in
    let is = unknown_is ans (c.in-Unknown.ensures.answer ∙ same) in
    e ∙ sym (ap (answers_desk b) is)

pub returns-in-Unknown-clause-joined : goal.returns-in-Unknown-clause-joined
returns-in-Unknown-clause-joined g c =
    let seen = g.E.PortEngine.seen in
    let a = acted seen c.args.self.now c.args.notes.now c.args.numbers.now in
    let ans = answered a.controller.desk c.args.message.now in
    let b = with_desk a (after_answer a.controller.desk ans) in
    let e = c.take_answer.ensures.acted c.args.notes.now c.args.numbers.now
    ∙ ap (λ (j : Joining _). with_desk (acted seen j c.args.notes.now c.args.numbers.now) (after_answer j.router.client.desk (answered j.router.client.desk c.args.message.now))) c.self.view_is in
    let same = ap (λ (j : Joining _). told (answered j.router.client.desk c.args.message.now)) c.self.view_is in
    ap (λ (x : Acted). joined_in x.controller) e ∙ c.requires.joined ∙ ap (λ (j : Joining _). j.joins) (sym c.self.view_is)

pub returns-in-Done-clause-acted : goal.returns-in-Done-clause-acted
returns-in-Done-clause-acted g c =
    let seen = g.E.PortEngine.seen in
    let a = acted seen c.args.self.now c.args.notes.now c.args.numbers.now in
    let ans = answered a.controller.desk c.args.message.now in
    let b = with_desk a (after_answer a.controller.desk ans) in
    let e = c.take_answer.ensures.acted c.args.notes.now c.args.numbers.now
    ∙ ap (λ (j : Joining _). with_desk (acted seen j c.args.notes.now c.args.numbers.now) (after_answer j.router.client.desk (answered j.router.client.desk c.args.message.now))) c.self.view_is in
    let same = ap (λ (j : Joining _). told (answered j.router.client.desk c.args.message.now)) c.self.view_is in
    let is = done_is ans c.in-Done.done (c.in-Done.ensures.answer ∙ same) in
    let its = ap (λ (s : Standing). s.request) c.done.ensures in
    ok_onward c.finish-result.result _ _ _ ((λ i. takes_success (e i) (its i)) ∙ sym (ap (answers_desk b) is)) c.finish-result.ensures.acted

pub returns-in-Ports-clause-acted : goal.returns-in-Ports-clause-acted
returns-in-Ports-clause-acted g c =
    let seen = g.E.PortEngine.seen in
    let a = acted seen c.args.self.now c.args.notes.now c.args.numbers.now in
    let ans = answered a.controller.desk c.args.message.now in
    let b = with_desk a (after_answer a.controller.desk ans) in
    let e = c.take_answer.ensures.acted c.args.notes.now c.args.numbers.now
    ∙ ap (λ (j : Joining _). with_desk (acted seen j c.args.notes.now c.args.numbers.now) (after_answer j.router.client.desk (answered j.router.client.desk c.args.message.now))) c.self.view_is in
    let same = ap (λ (j : Joining _). told (answered j.router.client.desk c.args.message.now)) c.self.view_is in
    let p = ports_are ans _ _ (c.in-Ports.ensures.answer ∙ same) in
    ok_onward c.empty_switch.result _ _ _ (ap empties e ∙ sym (ap (answers_desk b) p.is)) c.empty_switch.ensures.acted

pub returns-in-Failed-clause-acted : goal.returns-in-Failed-clause-acted
returns-in-Failed-clause-acted g c =
    let seen = g.E.PortEngine.seen in
    let a = acted seen c.args.self.now c.args.notes.now c.args.numbers.now in
    let ans = answered a.controller.desk c.args.message.now in
    let b = with_desk a (after_answer a.controller.desk ans) in
    let e = c.take_answer.ensures.acted c.args.notes.now c.args.numbers.now
    ∙ ap (λ (j : Joining _). with_desk (acted seen j c.args.notes.now c.args.numbers.now) (after_answer j.router.client.desk (answered j.router.client.desk c.args.message.now))) c.self.view_is in
    let same = ap (λ (j : Joining _). told (answered j.router.client.desk c.args.message.now)) c.self.view_is in
    let f = failed_is ans _ _ (c.in-Failed.ensures.answer ∙ same) in
    ok_onward c.reset_node.result _ _ _ (ap node_resets e ∙ sym (ap (answers_desk b) f.is)) c.reset_node.ensures.acted
