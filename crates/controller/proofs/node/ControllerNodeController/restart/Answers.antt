use Rattle.std.proofs.Common.{refl, ap}
use Rattle.law_joining_conditions.specs.law_controller_facts.Inputs.{Restarts}
use Rattle.controller_joining.specs.Joining.{acted}
use Rattle.law_joining_conditions.proofs.Events.{node_can_restart}
use Rattle.controller.specs.Controlling.{has_failed}
use Rattle.controller.proofs.Ended.{ends_by, was_ended}
use Rattle.controller.proofs.Rights.{draws, right_after, right_before, right_unless}
use Rattle.controller.proofs.node.ControllerNodeController.restart.Goals as goal

pub restart_node-result-requires : goal.restart_node-result-requires
restart_node-result-requires g c =
    let seen = g.E.PortEngine.seen in
    let old = c.self.inside.router in
    let right = right_before seen old c.self.inside.failure c.in_default.is c.self.invariant in
    record { can = node_can_restart (acted seen old c.args.notes.now c.args.numbers.now) right.kept c.requires.numbers }

pub invariant_of-self : goal.invariant_of-self
invariant_of-self g c =
    let seen = g.E.PortEngine.seen in
    let old = c.self.inside.router in
    let right = right_before seen old c.self.inside.failure c.in_default.is c.self.invariant in
    right_unless seen c.restart_node-result.result c.restart_node-result.new.self c.err-self-inside.result c.err-self-inside.ensures.value
    (right_after seen c.restart_node-result.result old c.restart_node-result.new.self c.args.notes.now c.restart_node-result.new.notes c.args.numbers.now c.restart_node-result.new.numbers (Restarts) tt right c.restart_node-result.ensures.acted c.restart_node-result.ensures.joined)

pub returns-clause-drawn : goal.returns-clause-drawn
returns-clause-drawn g c =
    let seen = g.E.PortEngine.seen in
    let old = c.self.inside.router in
    let right = right_before seen old c.self.inside.failure c.in_default.is c.self.invariant in
    draws seen c.restart_node-result.result old c.restart_node-result.new.self c.args.notes.now c.restart_node-result.new.notes c.args.numbers.now c.restart_node-result.new.numbers (Restarts) tt right c.restart_node-result.ensures.acted

pub returns-in-Some-clause-ends : goal.returns-in-Some-clause-ends
returns-in-Some-clause-ends g c = was_ended _ c.in-Some.error c.self.inside.failure c.args.self.now.failed refl c.in-Some.is (ap has_failed c.self.view_is)

pub returns-clause-ends : goal.returns-clause-ends
returns-clause-ends g c = ends_by c.restart_node-result.result c.err-self-inside.result c.self.inside.failure c.args.self.now.failed c.err-self-inside.ensures.value c.in_default.is (ap has_failed c.self.view_is)
