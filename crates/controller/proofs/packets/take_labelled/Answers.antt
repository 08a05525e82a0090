use Rattle.std.proofs.Common.{◌≡◌, Some, ap, sym, subst, refl, take, ◌∙◌}
use Rattle.std.specs.Prelude.{IsSome}
use Rattle.std.specs.Option.{option_and_then}
use Rattle.std.specs.Result.{result_err}
use Rattle.std.proofs.lemmas.Result.{on_ok_weaker}
use Rattle.ipv4_packet.specs.declared.flow.FlowId.{FlowId}
use Rattle.flow_encaps.specs.Labelled.{Carries, unwrap_fault}
use Rattle.link_model.specs.declared.record.Layer.TheVariants.{Encaps}
use Rattle.link_model.specs.declared.record.Record.TheVariants.{Bad}
use Rattle.controller_router.specs.port_state.Engine.{flow_at}
use Rattle.world_model.specs.Cells.{label_holds}
use Rattle.world_model.specs.Controller.{Linked, linked_at, note}
use Rattle.controller_router.specs.Node as node
use Rattle.controller_router.specs.Node.{Node}
use Rattle.controller_joining.specs.Joining.{acted}
use Rattle.controller_joining.proofs.Kept.{ok_onward}
use Rattle.controller.proofs.Frames.{labelled_acts}
use Rattle.controller.proofs.Unwrapped.{labelled_found, labelled_refused}
use Rattle.controller.proofs.packets.take_labelled.Goals as goal

pub take_rebuilt-requires-clause-bound : goal.take_rebuilt-requires-clause-bound
take_rebuilt-requires-clause-bound g c =
    let seen = g.E.PortEngine.seen in
    let found = ap (λ (n : Node _). option_and_then (λ (l : Linked). flow_at l.port c.args.label) (linked_at (node.controller_of seen n) c.args.port)) (sym c.router.ensures) ∙ sym c.flow_of.ensures ∙ c.in-Some.is in
    subst IsSome (sym found) refl

pub returns-in-Ok-clause-acted : goal.returns-in-Ok-clause-acted
returns-in-Ok-clause-acted g c = λ linked label port number is.
    let seen = g.E.PortEngine.seen in
    let a = acted seen c.args.router.now c.args.notes.now c.args.numbers.now in
    let found = ap (λ (n : Node _). option_and_then (λ (l : Linked). flow_at l.port c.args.label) (linked_at (node.controller_of seen n) c.args.port)) (sym c.router.ensures) ∙ sym c.flow_of.ensures ∙ c.in-Some.is in
    let flow : c.in-Some.flow ≡ label.flow = cc (sym found ∙ is) in
    let packet = take c.in-Ok.len c.unwrap_flow.new.out in
    let carried = subst (λ (f : FlowId). Carries f packet c.args.payload.now) flow c.in-Ok.ensures.found in
    ok_onward c.take_rebuilt.result _ _ _ (labelled_acts a linked label c.args.mark c.args.payload.now packet c.args.port c.args.label port number (labelled_found label.flow c.args.payload.now packet carried)) c.take_rebuilt.ensures.acted

pub returns-in-Err-clause-acted : goal.returns-in-Err-clause-acted
returns-in-Err-clause-acted g c = λ linked label port number is.
    let seen = g.E.PortEngine.seen in
    let a = acted seen c.args.router.now c.args.notes.now c.args.numbers.now in
    let found = ap (λ (n : Node _). option_and_then (λ (l : Linked). flow_at l.port c.args.label) (linked_at (node.controller_of seen n) c.args.port)) (sym c.router.ensures) ∙ sym c.flow_of.ensures ∙ c.in-Some.is in
    let flow : c.in-Some.flow ≡ label.flow = cc (sym found ∙ is) in
    let fault : unwrap_fault label.flow c.args.payload.now ≡ Some c.in-Err.fault = ap (λ (f : FlowId). unwrap_fault f c.args.payload.now) (sym flow) ∙ sym c.unwrap_flow.ensures.fault ∙ ap result_err c.in-Err.is in
    ok_onward c.refuse.result _ _ _ (ap (λ name. note a (Bad a.controller.node Encaps name)) c.encaps_refusal.ensures ∙ ap (label_holds a linked label c.args.mark) (sym (labelled_refused label.flow c.args.payload.now c.in-Err.fault fault))) (c.refuse.ensures c.args.numbers.now)

pub returns-in-Err-clause-joined : goal.returns-in-Err-clause-joined
returns-in-Err-clause-joined g c = on_ok_weaker c.refuse.result (λ e. c.requires.may.joined) (c.refuse.ensures c.args.numbers.now)
