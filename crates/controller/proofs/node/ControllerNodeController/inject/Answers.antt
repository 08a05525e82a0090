use Rattle.std.proofs.Common.{◌≢◌, ℕ, refl, ap, sym, subst, ◌∙◌}
use Rattle.std.specs.Prelude.{is_err}
use Rattle.std.specs.Result.{result_err}
use Rattle.net_types.specs.Number.{GivenOut}
use Rattle.world_model.specs.Packets.{control_protocol}
use Rattle.law_joining_conditions.specs.law_controller_facts.Inputs.{PacketEnters}
use Rattle.controller_joining.specs.Joining.{acted, controller_of}
use Rattle.controller_joining.proofs.Kept.{ok_onward}
use Rattle.law_joining_conditions.proofs.law_controller_conditions.Leading.{routes_lead_to_links}
use Rattle.controller.specs.Controlling.{has_failed}
use Rattle.controller.proofs.Ended.{ends_as, ends_by, was_ended}
use Rattle.controller.proofs.Rights.{right_after, right_before, right_unless}
use Rattle.controller.proofs.Entered.{enters_is, fault_refused, protocol_refused}
use Rattle.controller.proofs.node.ControllerNodeController.inject.Goals.{in-Ok, in-Err-result}
use Rattle.controller.proofs.node.ControllerNodeController.inject.Goals as goal

pub enter-result-requires-clause-port : goal.enter-result-requires-clause-port
enter-result-requires-clause-port g c = λ port hop.
    let seen = g.E.PortEngine.seen in
    let old = c.self.inside.router in
    let right = right_before seen old c.self.inside.failure c.in_default-failure.is c.self.invariant in
    routes_lead_to_links.hops (controller_of seen old) c.args.packet.now port right.routes hop

pub invariant_of-self : goal.invariant_of-self
invariant_of-self g c =
    let seen = g.E.PortEngine.seen in
    let numbers : GivenOut = record { instances = 0; controls = 0 } in
    let old = c.self.inside.router in
    let right = right_before seen old c.self.inside.failure c.in_default-failure.is c.self.invariant in
    let a = acted seen old c.args.notes.now numbers in
    let whole = sym c.check.ensures.fault ∙ ap result_err c.in_default.is in
    let other = subst (λ (n : ℕ). n ≢ control_protocol) c.protocol.ensures c.if-protocol-eq-IFMP_PROTOCOL.false in
    let enters = enters_is a c.args.number c.args.packet.now whole other in
    right_unless seen c.enter-result.result c.enter-result.new.self c.err-self-inside.result c.err-self-inside.ensures.value
    (right_after seen c.enter-result.result old c.enter-result.new.self c.args.notes.now c.enter-result.new.notes numbers numbers (PacketEnters c.args.number c.args.packet.now) tt right
    (ok_onward c.enter-result.result _ _ _ enters (c.enter-result.ensures.acted numbers)) c.enter-result.ensures.joined)

pub returns-clause-acted : goal.returns-clause-acted
returns-clause-acted g c = λ numbers. rw (← c.self.view_is) (elim c.match-result.branch [ in-Ok w ↦ rw w.result-is (rw w.in-Ok.is at c.enter-result.ensures.acted numbers) | in-Err-result w ↦ rw w.result-is tt ])

pub returns-in-Err-clause-ends : goal.returns-in-Err-clause-ends
returns-in-Err-clause-ends g c = λ none. absurd (fault_refused c.args.packet.now c.in-Err.fault (sym c.check.ensures.fault ∙ ap result_err c.in-Err.is) none)

pub returns-then-protocol-eq-IFMP_PROTOCOL-clause-ends : goal.returns-then-protocol-eq-IFMP_PROTOCOL-clause-ends
returns-then-protocol-eq-IFMP_PROTOCOL-clause-ends g c = λ none. absurd (protocol_refused c.args.packet.now (sym c.check.ensures.fault ∙ ap result_err c.in_default.is) (sym c.protocol.ensures ∙ c.if-protocol-eq-IFMP_PROTOCOL.true) none)

pub returns-in-Some-clause-ends : goal.returns-in-Some-clause-ends
returns-in-Some-clause-ends g c = λ none. was_ended _ c.in-Some.error c.self.inside.failure c.args.self.now.failed refl c.in-Some.is (ap has_failed c.self.view_is)

pub returns-clause-ends : goal.returns-clause-ends
returns-clause-ends g c = λ none.
    let ends = ends_by c.enter-result.result c.err-self-inside.result c.self.inside.failure c.args.self.now.failed c.err-self-inside.ensures.value c.in_default-failure.is (ap has_failed c.self.view_is) in
    elim c.match-result.branch [ in-Ok w ↦ ends_as c.enter-result.result _ _ _ (ap is_err w.result-is ∙ sym (ap is_err w.in-Ok.is)) ends | in-Err-result w ↦ ends_as c.enter-result.result _ _ _ (ap is_err w.result-is ∙ sym (ap is_err w.in-Err-result.is)) ends ]
