use Rattle.std.proofs.Common.{map, sym, ◌∙◌}
use Rattle.controller_gsmp.specs.Client.{Router}
use Rattle.controller_gsmp.proofs.Sums.{free_is}
use Rattle.controller_router.proofs.Linked.{one_node}
use Rattle.controller_router.proofs.router.Router.region.Goals as goal

pub returns-clause-free : goal.returns-clause-free
returns-clause-free g c =
    let r : Router = record {
      node = c.self.inside.node;
      address = c.self.inside.address;
      table = c.self.inside.routes.table;
      waiting = c.self.inside.routes.waiting;
      is_begun = c.self.inside.routes.is_begun;
      changes = c.self.inside.routes.changes;
      ports = map g.E.PortEngine.seen c.self.inside.links.items;
    } in
    rw (← c.self.view_is) (c.region.ensures.free ∙ sym (free_is r c.self.inside.client (one_node r c.self.inside.client c.self.invariant.linked)))
