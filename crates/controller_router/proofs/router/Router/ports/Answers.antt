use Rattle.std.proofs.Common.{length, ap, sym, subst, ◌∙◌}
use Rattle.crossbar_model.specs.Channels.{ArePorts}
use Rattle.controller_router.specs.Node.{Node, ports_in}
use Rattle.controller_router.proofs.AtWork.{length-ports_in, ports_are}
use Rattle.controller_router.proofs.router.Router.ports.Goals as goal

pub returns-clause-len : goal.returns-clause-len
returns-clause-len g c =
    let n0 : Node _ = record { node = c.self.inside.node; address = c.self.inside.address; routes = c.self.inside.routes; links = c.self.inside.links.items; client = c.self.inside.client } in
    rw (← c.self.view_is) (ap length c.as_slice.ensures.value ∙ sym (length-ports_in g.E.PortEngine.seen n0))

pub returns-clause-linked : goal.returns-clause-linked
returns-clause-linked g c =
    let n0 : Node _ = record { node = c.self.inside.node; address = c.self.inside.address; routes = c.self.inside.routes; links = c.self.inside.links.items; client = c.self.inside.client } in
    rw (← c.self.view_is) (ports_are g.E.PortEngine.seen n0 c.self.invariant.linked)

pub returns-clause-are : goal.returns-clause-are
returns-clause-are g c =
    let n0 : Node _ = record { node = c.self.inside.node; address = c.self.inside.address; routes = c.self.inside.routes; links = c.self.inside.links.items; client = c.self.inside.client } in
    subst (λ (n : Node _). ArePorts (ports_in g.E.PortEngine.seen n)) c.self.view_is c.self.invariant.linked.ports
