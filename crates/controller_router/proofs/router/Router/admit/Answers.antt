use Rattle.std.proofs.Common.{ap, ◌∙◌}
use Rattle.std.specs.Option.{option_map}
use Rattle.std.proofs.lemmas.Result.{on_ok_weaker}
use Rattle.net_types.specs.declared.number.Mark.{Mark}
use Rattle.ipv4_forward.specs.Hop.{hop_of, onward}
use Rattle.world_model.specs.Packets.{forwarded, grant_by}
use Rattle.world_model.specs.Sending.{sends}
use Rattle.controller_router.specs.Node.{acted, controller_of}
use Rattle.controller_router.specs.Packets.{granted, payload_by, way_by}
use Rattle.controller_router.proofs.Forwards.{enters_is}
use Rattle.controller_router.proofs.router.Router.admit.Goals as goal

pub returns-in-On-clause-acted : goal.returns-in-On-clause-acted
returns-in-On-clause-acted g c = λ numbers.
    let seen = g.E.PortEngine.seen in
    let node = c.args.self.now in
    let before = controller_of seen node in
    let port = c.in-On.port in
    let packet = c.args.packet.now in
    let mark : Mark = record { packet = c.args.number; frame = 1 } in
    let came : Mark = record { packet = c.args.number; frame = 0 } in
    let hop = c.in-On.ensures.hop ∙ ap (λ table. hop_of table packet) (c.table.ensures ∙ ap (λ n. n.routes.table) c.self.view_is) in
    on_ok_weaker c.go_on.result
    (λ e. e
    ∙ (λ i. sends (acted seen node c.args.notes.now numbers) (way_by port (option_map granted (grant_by before port (c.in-On.ensures.hopped i)))).channel mark (payload_by (c.in-On.ensures.hopped i) (option_map granted (grant_by before port (c.in-On.ensures.hopped i)))))
    ∙ enters_is (acted seen node c.args.notes.now numbers) c.args.number port (onward packet) (grant_by before port (onward packet))
    ∙ ap (forwarded (acted seen node c.args.notes.now numbers) came packet) hop)
    (c.go_on.ensures.acted numbers)
