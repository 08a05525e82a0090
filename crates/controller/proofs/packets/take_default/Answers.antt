use Rattle.std.proofs.Common.{◌≡◌, None, Some, ap, sym, ◌∙◌}
use Rattle.std.specs.Result.{result_err}
use Rattle.flow_encaps.specs.Default.{default_fault}
use Rattle.link_model.specs.declared.record.Layer.TheVariants.{Encaps}
use Rattle.link_model.specs.declared.record.Record.TheVariants.{Bad}
use Rattle.world_model.specs.Cells.{default_holds}
use Rattle.world_model.specs.Controller.{note}
use Rattle.controller_joining.specs.Joining.{acted}
use Rattle.controller_joining.proofs.Kept.{ok_onward}
use Rattle.controller.proofs.Unwrapped.{default_found, default_refused}
use Rattle.controller.proofs.packets.take_default.Goals as goal

pub take_packet-requires-clause-can : goal.take_packet-requires-clause-can
take_packet-requires-clause-can g c = λ whole.
    let none : default_fault c.args.payload.now ≡ None = sym c.unwrap_default.ensures.fault ∙ ap result_err c.in-Ok.is in
    c.requires.can c.in-Ok.packet.now (default_found c.args.payload.now c.in-Ok.packet.now none c.in-Ok.ensures.ok) whole

pub returns-in-Ok-clause-acted : goal.returns-in-Ok-clause-acted
returns-in-Ok-clause-acted g c =
    let seen = g.E.PortEngine.seen in
    let a = acted seen c.args.router.now c.args.notes.now c.args.numbers.now in
    let none : default_fault c.args.payload.now ≡ None = sym c.unwrap_default.ensures.fault ∙ ap result_err c.in-Ok.is in
    ok_onward c.take_packet.result _ _ _ (ap (default_holds a c.args.port c.args.mark) (sym (default_found c.args.payload.now c.in-Ok.packet.now none c.in-Ok.ensures.ok))) c.take_packet.ensures.acted

pub returns-in-Err-clause-acted : goal.returns-in-Err-clause-acted
returns-in-Err-clause-acted g c =
    let seen = g.E.PortEngine.seen in
    let a = acted seen c.args.router.now c.args.notes.now c.args.numbers.now in
    let fault : default_fault c.args.payload.now ≡ Some c.in-Err.fault = sym c.unwrap_default.ensures.fault ∙ ap result_err c.in-Err.is in
    ok_onward c.refuse.result _ _ _ (ap (λ name. note a (Bad a.controller.node Encaps name)) c.encaps_refusal.ensures ∙ ap (default_holds a c.args.port c.args.mark) (sym (default_refused c.args.payload.now c.in-Err.fault fault))) (c.refuse.ensures c.args.numbers.now)
