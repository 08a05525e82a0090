use Rattle.std.proofs.Common.{ap, sym, subst, ◌∙◌}
use Rattle.std.specs.Option.{option_and_then, option_map}
use Rattle.port_model.specs.Grants.{grant_matching}
use Rattle.controller_router.specs.Node.{IsPlaceOf, Node, ports_in}
use Rattle.controller_router.specs.Packets.{granted}
use Rattle.controller_router.proofs.AtWork.{node_found, unlinked}
use Rattle.controller_router.proofs.router.Router.permit_for.Goals as goal

pub returns-in-Some-clause-permit : goal.returns-in-Some-clause-permit
returns-in-Some-clause-permit g c =
    let seen = g.E.PortEngine.seen in
    let n0 : Node _ = record { node = c.self.inside.node; address = c.self.inside.address; routes = c.self.inside.routes; links = c.self.inside.links.items; client = c.self.inside.client } in
    let place = subst (λ n. IsPlaceOf (ports_in seen n) c.args.port c.in-Some.place) (sym c.self.view_is) c.in-Some.ensures.some in
    let f = node_found seen n0 c.args.port c.in-Some.place c.index.result.now c.self.invariant.linked place c.index.ensures in
    rw (← c.self.view_is)
    (c.permit_by.ensures.permit ∙ ap (λ grants. option_map granted (grant_matching grants c.args.packet.now)) c.grants.ensures
    ∙ ap (λ o. option_map granted (option_and_then (λ linked. grant_matching linked.port.grants c.args.packet.now) o)) (sym f.is))

pub returns-in-None-clause-permit : goal.returns-in-None-clause-permit
returns-in-None-clause-permit g c =
    ap (λ o. option_map granted (option_and_then (λ linked. grant_matching linked.port.grants c.args.packet.now) o)) (sym (unlinked g.E.PortEngine.seen c.args.self.now c.args.port c.in-None.ensures.none))
