use Rattle.std.proofs.Common.{◌<◌, length, sym, subst, ◌∙◌, arith}
use Rattle.crossbar_model.specs.Channels.{IsLinkPort}
use Rattle.controller_router.specs.Node.{Node, ports_in}
use Rattle.controller_router.proofs.AtWork.{length-ports_in, port_is_link, port_of_place}
use Rattle.controller_router.proofs.router.Router.port_at.Goals as goal

pub index-requires : goal.index-requires
index-requires g c =
    let n0 : Node _ = record { node = c.self.inside.node; address = c.self.inside.address; routes = c.self.inside.routes; links = c.self.inside.links.items; client = c.self.inside.client } in
    let within = subst (λ n. c.args.place < length (ports_in g.E.PortEngine.seen n)) (sym c.self.view_is) c.requires in
    omega (arith, within, length-ports_in g.E.PortEngine.seen n0)

pub returns-clause-at : goal.returns-clause-at
returns-clause-at g c =
    let n0 : Node _ = record { node = c.self.inside.node; address = c.self.inside.address; routes = c.self.inside.routes; links = c.self.inside.links.items; client = c.self.inside.client } in
    let within = subst (λ n. c.args.place < length (ports_in g.E.PortEngine.seen n)) (sym c.self.view_is) c.requires in
    let inside : c.args.place < length n0.links = omega (arith, within, length-ports_in g.E.PortEngine.seen n0) in
    rw (← c.self.view_is) (λ d. port_of_place g.E.PortEngine.seen n0.links c.args.place c.index.result.now d inside c.index.ensures ∙ sym c.port.ensures)

pub returns-clause-link : goal.returns-clause-link
returns-clause-link g c =
    let n0 : Node _ = record { node = c.self.inside.node; address = c.self.inside.address; routes = c.self.inside.routes; links = c.self.inside.links.items; client = c.self.inside.client } in
    let within = subst (λ n. c.args.place < length (ports_in g.E.PortEngine.seen n)) (sym c.self.view_is) c.requires in
    let inside : c.args.place < length n0.links = omega (arith, within, length-ports_in g.E.PortEngine.seen n0) in
    subst IsLinkPort (sym c.port.ensures) (port_is_link g.E.PortEngine.seen n0.links c.args.place c.index.result.now c.self.invariant.linked.ports inside c.index.ensures)
