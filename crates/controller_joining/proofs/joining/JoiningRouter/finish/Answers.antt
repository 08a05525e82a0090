use Rattle.std.proofs.Common.{◌≡◌, true, Some, ap, sym, subst, ◌∙◌}
use Rattle.adjacency_table.specs.Side.{is_estab}
use Rattle.net_types.specs.declared.node.PortNo.{PortNo}
use Rattle.port_model.specs.Answers as port_answers
use Rattle.controller_joins.specs.world_model.Controller.{Acted, ports_of}
use Rattle.controller_joins.specs.world_model.Changes.{takes_changes}
use Rattle.controller_joins.specs.world_model.Meeting.{causes, clears, request_port}
use Rattle.law_join_facts.specs.Joins.{joined_in}
use Rattle.law_join_facts.proofs.Spent.{clears_stays}
use Rattle.controller_router.specs.Meeting.{CanCause}
use Rattle.controller_joining.specs.Conditions.{CanTakeChanges, KeepsJoins}
use Rattle.controller_joining.specs.Joining.{Joining, acted}
use Rattle.controller_joining.proofs.Kept.{ok_onward, stayed}
use Rattle.controller_joining.proofs.joining.JoiningRouter.finish.Goals as goal

pub cause-requires-clause-can : goal.cause-requires-clause-can
cause-requires-clause-can g c =
    let seen = g.E.PortEngine.seen in
    let a = acted seen c.args.self.now c.args.notes.now c.args.numbers.now in
    let request = c.args.done.now.request in
    let can = c.requires.can in
    let e1 = c.in_ok-release.ensures.acted in
    subst (λ (x : Acted). is_estab x.controller.adjacency.state ≡ true → CanCause x request) (sym e1) can.cause

pub cause-requires-clause-keeps : goal.cause-requires-clause-keeps
cause-requires-clause-keeps g c =
    let seen = g.E.PortEngine.seen in
    let a = acted seen c.args.self.now c.args.notes.now c.args.numbers.now in
    let request = c.args.done.now.request in
    let can = c.requires.can in
    let e1 = c.in_ok-release.ensures.acted in
    subst (λ (x : Acted). (port : PortNo) → request_port request ≡ Some port → KeepsJoins x port (λ setup desk w. port_answers.done setup w request)) (sym e1) can.keeps

pub take_changes-requires-clause-joined : goal.take_changes-requires-clause-joined
take_changes-requires-clause-joined g c =
    let seen = g.E.PortEngine.seen in
    let a = acted seen c.args.self.now c.args.notes.now c.args.numbers.now in
    let request = c.args.done.now.request in
    let can = c.requires.can in
    let e1 = c.in_ok-release.ensures.acted in
    let e2 = c.in_ok-cause.ensures.acted ∙ ap (λ (x : Acted). causes x request) e1 in
    let b2 = acted seen c.cause.new.self c.cause.new.notes c.cause.new.numbers in
    let e3 = c.clear_ports.ensures.acted c.cause.new.notes c.cause.new.numbers ∙ ap (λ (j : Joining _). clears (acted seen j c.cause.new.notes c.cause.new.numbers)) c.self.view_is in
    let all = e3 ∙ ap clears e2 in
    let s = clears_stays (ports_of b2.controller) b2 in
    ap (λ (x : Acted). joined_in x.controller) e3 ∙ stayed b2 (clears b2) c.cause.new.self.joins s c.in_ok-cause.ensures.joined ∙ ap (λ (j : Joining _). j.joins) (sym c.self.view_is)

pub take_changes-requires-clause-can : goal.take_changes-requires-clause-can
take_changes-requires-clause-can g c =
    let seen = g.E.PortEngine.seen in
    let a = acted seen c.args.self.now c.args.notes.now c.args.numbers.now in
    let request = c.args.done.now.request in
    let can = c.requires.can in
    let e1 = c.in_ok-release.ensures.acted in
    let e2 = c.in_ok-cause.ensures.acted ∙ ap (λ (x : Acted). causes x request) e1 in
    let b2 = acted seen c.cause.new.self c.cause.new.notes c.cause.new.numbers in
    let e3 = c.clear_ports.ensures.acted c.cause.new.notes c.cause.new.numbers ∙ ap (λ (j : Joining _). clears (acted seen j c.cause.new.notes c.cause.new.numbers)) c.self.view_is in
    let all = e3 ∙ ap clears e2 in
    subst CanTakeChanges (sym all) can.changes

pub returns-clause-acted : goal.returns-clause-acted
returns-clause-acted g c =
    let seen = g.E.PortEngine.seen in
    let a = acted seen c.args.self.now c.args.notes.now c.args.numbers.now in
    let request = c.args.done.now.request in
    let can = c.requires.can in
    let e1 = c.in_ok-release.ensures.acted in
    let e2 = c.in_ok-cause.ensures.acted ∙ ap (λ (x : Acted). causes x request) e1 in
    let b2 = acted seen c.cause.new.self c.cause.new.notes c.cause.new.numbers in
    let e3 = c.clear_ports.ensures.acted c.cause.new.notes c.cause.new.numbers ∙ ap (λ (j : Joining _). clears (acted seen j c.cause.new.notes c.cause.new.numbers)) c.self.view_is in
    let all = e3 ∙ ap clears e2 in
    ok_onward c.take_changes.result _ _ _ (ap takes_changes all) c.take_changes.ensures.acted
