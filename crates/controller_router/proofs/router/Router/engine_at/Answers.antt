use Rattle.std.proofs.Common.{sym, subst}
use Rattle.controller_router.specs.Node.{IsPlaceOf, Node, ports_in}
use Rattle.controller_router.proofs.Joined.{engine_found}
use Rattle.controller_router.proofs.router.Router.engine_at.Goals as goal

pub returns-in-Some-clause-some : goal.returns-in-Some-clause-some
returns-in-Some-clause-some g c =
    let seen = g.E.PortEngine.seen in
    let n0 : Node _ = record { node = c.self.inside.node; address = c.self.inside.address; routes = c.self.inside.routes; links = c.self.inside.links.items; client = c.self.inside.client } in
    let place = subst (λ n. IsPlaceOf (ports_in seen n) c.args.port c.in-Some.place) (sym c.self.view_is) c.in-Some.ensures.some in
    rw (← c.self.view_is) (engine_found seen n0 c.args.port c.in-Some.place c.index.result.now c.self.invariant.linked place c.index.ensures)
