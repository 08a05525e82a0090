use Rattle.std.proofs.Common.{◌<◌, length, sym, subst, arith}
use Rattle.controller_router.specs.Node.{Node, controller_of}
use Rattle.controller_router.proofs.Placed.{engine_at_place, place_has_engine}
use Rattle.controller_router.proofs.router.Router.link_at.Goals as goal

pub index-requires : goal.index-requires
index-requires g c =
    let seen = g.E.PortEngine.seen in
    let n0 : Node _ = record { node = c.self.inside.node; address = c.self.inside.address; routes = c.self.inside.routes; links = c.self.inside.links.items; client = c.self.inside.client } in
    let within = subst (λ n. c.args.place < length (controller_of seen n).ports) (sym c.self.view_is) c.requires in
    omega (arith, place_has_engine seen n0 c.args.place within)

pub returns : goal.returns
returns g c =
    let seen = g.E.PortEngine.seen in
    let n0 : Node _ = record { node = c.self.inside.node; address = c.self.inside.address; routes = c.self.inside.routes; links = c.self.inside.links.items; client = c.self.inside.client } in
    let within = subst (λ n. c.args.place < length (controller_of seen n).ports) (sym c.self.view_is) c.requires in
    rw (← c.self.view_is) (engine_at_place seen n0 c.args.place within c.index.result.now c.index.ensures)
