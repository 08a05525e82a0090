use Rattle.std.proofs.Common.{ap, sym, subst, ◌∙◌}
use Rattle.std.specs.Option.{option_and_then}
use Rattle.port_state.specs.Engine.{flow_at}
use Rattle.world_model.specs.Controller.{Linked}
use Rattle.controller_router.specs.Node.{IsPlaceOf, Node, ports_in}
use Rattle.controller_router.proofs.AtWork.{node_found, unlinked}
use Rattle.controller_router.proofs.router.Router.flow_of.Goals as goal

pub returns-in-Some : goal.returns-in-Some
returns-in-Some g c =
    let seen = g.E.PortEngine.seen in
    let n0 : Node _ = record { node = c.self.inside.node; address = c.self.inside.address; routes = c.self.inside.routes; links = c.self.inside.links.items; client = c.self.inside.client } in
    let place = subst (λ n. IsPlaceOf (ports_in seen n) c.args.port c.in-Some.place) (sym c.self.view_is) c.in-Some.ensures.some in
    let f = node_found seen n0 c.args.port c.in-Some.place c.index.result.now c.self.invariant.linked place c.index.ensures in
    rw (← c.self.view_is) (c.flow_of.ensures ∙ ap (option_and_then (λ (l : Linked). flow_at l.port c.args.label)) (sym f.is))

pub returns-in-None : goal.returns-in-None
returns-in-None g c =
    ap (option_and_then (λ (l : Linked). flow_at l.port c.args.label)) (sym (unlinked g.E.PortEngine.seen c.args.self.now c.args.port c.in-None.ensures.none))
