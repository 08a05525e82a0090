use Rattle.std.proofs.Common.{map}
use Rattle.controller_gsmp.specs.Client.{Router}
use Rattle.controller_router.proofs.router.Router.cut_gsmp.Goals as goal

pub returns-clause-acted : goal.returns-clause-acted
returns-clause-acted g c =
    let r : Router = record {
      node = c.self.inside.node;
      address = c.self.inside.address;
      table = c.self.inside.routes.table;
      waiting = c.self.inside.routes.waiting;
      is_begun = c.self.inside.routes.is_begun;
      changes = c.self.inside.routes.changes;
      ports = map g.E.PortEngine.seen c.self.inside.links.items;
    } in
    rw (← c.self.view_is) (λ numbers. c.cut_gsmp.ensures.acted r numbers)
