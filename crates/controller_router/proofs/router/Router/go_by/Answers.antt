use Rattle.std.proofs.Common.{ap, ◌∙◌, arith}
use Rattle.std.proofs.lemmas.List.{length-take-le}
use Rattle.std.proofs.lemmas.Result.{on_ok_weaker}
use Rattle.world_model.specs.Sending.{sends}
use Rattle.controller_router.specs.Node.{acted}
use Rattle.controller_router.specs.Packets.{payload_by, way_by}
use Rattle.controller_router.proofs.router.Router.go_by.Goals as goal

pub send-requires : goal.send-requires
send-requires g c =
    let long = length-take-le c.wrap-len.result c.wrap-len.new.room (omega (arith, c.wrap-len.ensures.size.1, c.wrap-len.ensures.room, c.requires.room)) in
    rw long (c.wrap-len.ensures.size.0, omega (arith, c.wrap-len.ensures.size.1, c.requires.packet.fits_mtu))

pub returns-clause-acted : goal.returns-clause-acted
returns-clause-acted g c =
    let seen = g.E.PortEngine.seen in
    let same = c.permit_for-permit.ensures.permit in
    let channel = c.channel_by-channel.ensures ∙ ap (λ named. (way_by c.args.port named).channel) same in
    let payload = c.wrap-len.ensures.payload ∙ ap (payload_by c.args.packet.now) same in
    λ numbers. on_ok_weaker c.send.result (λ e. e ∙ (λ i. sends (acted seen c.args.self.now c.args.notes.now numbers) (channel i) c.args.mark (payload i))) (c.send.ensures.acted numbers)
