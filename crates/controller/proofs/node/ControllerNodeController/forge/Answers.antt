use Rattle.std.proofs.Common.{refl, ap}
use Rattle.law_joining_conditions.specs.law_controller_facts.Inputs.{FrameIsForged}
use Rattle.net_types.specs.Number.{GivenOut}
use Rattle.controller.specs.Controlling.{has_failed}
use Rattle.controller.proofs.Ended.{ends_by, was_ended}
use Rattle.controller.proofs.Rights.{right_after, right_before, right_unless}
use Rattle.controller.proofs.node.ControllerNodeController.forge.Goals as goal

pub invariant_of-self : goal.invariant_of-self
invariant_of-self g c =
    let seen = g.E.PortEngine.seen in
    let numbers : GivenOut = record { instances = 0; controls = 0 } in
    let old = c.self.inside.router in
    let right = right_before seen old c.self.inside.failure c.in_default.is c.self.invariant in
    right_unless seen c.send-result.result c.send-result.new.self c.err-self-inside.result c.err-self-inside.ensures.value
    (right_after seen c.send-result.result old c.send-result.new.self c.args.notes.now c.send-result.new.notes numbers numbers (FrameIsForged c.args.channel c.args.mark c.args.payload.now) tt right (c.send-result.ensures.acted numbers) c.send-result.ensures.joined)

pub returns-in-Some-clause-ends : goal.returns-in-Some-clause-ends
returns-in-Some-clause-ends g c = was_ended _ c.in-Some.error c.self.inside.failure c.args.self.now.failed refl c.in-Some.is (ap has_failed c.self.view_is)

pub returns-clause-ends : goal.returns-clause-ends
returns-clause-ends g c = ends_by c.send-result.result c.err-self-inside.result c.self.inside.failure c.args.self.now.failed c.err-self-inside.ensures.value c.in_default.is (ap has_failed c.self.view_is)
