use Rattle.std.proofs.Common.{◌≡◌, ◌-◌, ℕ, List, Some, length, take, drop, ap, sym, subst, ◌∙◌, arith}
use Rattle.std.proofs.lemmas.List.{take_all, length-drop}
use Rattle.std.specs.Result.{result_err}
use Rattle.ifmp_wire.specs.Message.{Tells}
use Rattle.ifmp_wire.specs.Tests.{first_fault}
use Rattle.link_model.specs.declared.record.Layer.TheVariants.{Ifmp}
use Rattle.link_model.specs.declared.record.Record.TheVariants.{Bad}
use Rattle.world_model.specs.Cells.{ifmp_holds}
use Rattle.world_model.specs.Controller.{note}
use Rattle.world_model.specs.Performing.{at_port}
use Rattle.controller_joining.specs.Conditions.{CanWorkOn}
use Rattle.controller_joining.specs.Joining.{acted}
use Rattle.controller_joining.proofs.Kept.{ok_onward}
use Rattle.law_joining_conditions.specs.law_controller_conditions.Calls.{hearing}
use Rattle.controller.proofs.Decoded.{decoded_refused, decoded_told}
use Rattle.controller.proofs.packets.hear_peer.Goals as goal

pub hear-requires-clause-can : goal.hear-requires-clause-can
hear-requires-clause-can g c =
    let seen = g.E.PortEngine.seen in
    let a = acted seen c.args.router.now c.args.notes.now c.args.numbers.now in
    let p = c.args.packet.now in
    let m = c.in-Ok.message in
    let whole : take (length p - 20) (drop 20 p) ≡ drop 20 p = take_all (length p - 20) (drop 20 p) (rw length-drop (omega arith)) in
    let told = subst (λ (part : List ℕ). Tells part m) whole ((c.decode.ensures.ok m).0 c.in-Ok.is) in
    subst (λ source. CanWorkOn a c.args.port (hearing source m)) (sym c.source.ensures) (c.requires.can m (decoded_told (drop 20 p) m told) told.in_range)

pub returns-in-Ok-clause-acted : goal.returns-in-Ok-clause-acted
returns-in-Ok-clause-acted g c =
    let seen = g.E.PortEngine.seen in
    let a = acted seen c.args.router.now c.args.notes.now c.args.numbers.now in
    let p = c.args.packet.now in
    let m = c.in-Ok.message in
    let whole : take (length p - 20) (drop 20 p) ≡ drop 20 p = take_all (length p - 20) (drop 20 p) (rw length-drop (omega arith)) in
    let told = subst (λ (part : List ℕ). Tells part m) whole ((c.decode.ensures.ok m).0 c.in-Ok.is) in
    ok_onward c.hear.result _ _ _ (ap (λ source. at_port a c.args.port (hearing source m)) c.source.ensures ∙ ap (ifmp_holds a c.args.port p) (sym (decoded_told (drop 20 p) m told))) c.hear.ensures.acted

pub returns-in-Err-clause-acted : goal.returns-in-Err-clause-acted
returns-in-Err-clause-acted g c =
    let seen = g.E.PortEngine.seen in
    let a = acted seen c.args.router.now c.args.notes.now c.args.numbers.now in
    let p = c.args.packet.now in
    let whole : take (length p - 20) (drop 20 p) ≡ drop 20 p = take_all (length p - 20) (drop 20 p) (rw length-drop (omega arith)) in
    let fault : first_fault (drop 20 p) ≡ Some c.in-Err.fault = ap first_fault (sym whole) ∙ sym c.decode.ensures.fault ∙ ap result_err c.in-Err.is in
    ok_onward c.refuse.result _ _ _ (ap (λ name. note a (Bad a.controller.node Ifmp name)) c.ifmp_refusal.ensures ∙ ap (ifmp_holds a c.args.port p) (sym (decoded_refused (drop 20 p) c.in-Err.fault fault))) (c.refuse.ensures c.args.numbers.now)
