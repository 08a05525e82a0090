use Rattle.std.proofs.Common.{Some, ap, sym, subst, ◌∙◌}
use Rattle.std.specs.Option.{option_map}
use Rattle.world_model.specs.Controller.{Linked}
use Rattle.controller_router.specs.Node.{IsPlaceOf, Node, ports_in}
use Rattle.controller_router.proofs.AtWork.{node_found, unlinked}
use Rattle.controller_router.proofs.router.Router.grants_at.Goals as goal

pub returns-in-Some-clause-some : goal.returns-in-Some-clause-some
returns-in-Some-clause-some g c =
    let seen = g.E.PortEngine.seen in
    let n0 : Node _ = record { node = c.self.inside.node; address = c.self.inside.address; routes = c.self.inside.routes; links = c.self.inside.links.items; client = c.self.inside.client } in
    let place = subst (λ n. IsPlaceOf (ports_in seen n) c.args.port c.in-Some.place) (sym c.self.view_is) c.in-Some.ensures.some in
    let f = node_found seen n0 c.args.port c.in-Some.place c.index.result.now c.self.invariant.linked place c.index.ensures in
    rw (← c.self.view_is) (ap (option_map (λ (l : Linked). l.port.grants)) f.is ∙ ap Some (sym c.grants.ensures))

pub returns-in-None-clause-none : goal.returns-in-None-clause-none
returns-in-None-clause-none g c = unlinked g.E.PortEngine.seen c.args.self.now c.args.port c.in-None.ensures.none
