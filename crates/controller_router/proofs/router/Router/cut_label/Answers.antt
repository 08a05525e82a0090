use Rattle.std.proofs.Common.{◌≡◌, true, map, subst, sym, ◌∙◌}
use Rattle.controller_link.specs.Cells.{is_channel}
use Rattle.controller_link.specs.declared.taker.Taker.TheVariants.{Label}
use Rattle.controller_gsmp.specs.Client.{Router}
use Rattle.controller_router.specs.Node.{AreLinked, Node, ranges_in}
use Rattle.controller_router.proofs.AtWork.{ranges_are}
use Rattle.controller_router.proofs.Linked.{one_node}
use Rattle.controller_router.proofs.router.Router.cut_label.Goals as goal

pub cut_label-requires : goal.cut_label-requires
cut_label-requires g c =
    let n0 : Node _ = record { node = c.self.inside.node; address = c.self.inside.address; routes = c.self.inside.routes; links = c.self.inside.links.items; client = c.self.inside.client } in
    let can = subst (λ n. is_channel (ranges_in g.E.PortEngine.seen n) (Label c.args.port c.args.label) ≡ true) (sym c.self.view_is) c.requires in
    subst (λ ranges. is_channel ranges (Label c.args.port c.args.label) ≡ true) (ranges_are g.E.PortEngine.seen n0 c.self.invariant.linked) can

pub returns-clause-ranges : goal.returns-clause-ranges
returns-clause-ranges g c =
    let seen = g.E.PortEngine.seen in
    let n0 : Node _ = record { node = c.self.inside.node; address = c.self.inside.address; routes = c.self.inside.routes; links = c.self.inside.links.items; client = c.self.inside.client } in
    let n1 : Node _ = record n0 { client = c.cut_label.new.self } in
    let linked : AreLinked (map seen c.self.inside.links.items) c.cut_label.new.self.control = record { ports = c.self.invariant.linked.ports; ranges = c.cut_label.ensures.ranges ∙ c.self.invariant.linked.ranges } in
    rw (← c.self.view_is) (ranges_are seen n1 linked ∙ c.cut_label.ensures.ranges ∙ sym (ranges_are seen n0 c.self.invariant.linked))

pub returns-clause-acted : goal.returns-clause-acted
returns-clause-acted g c =
    let r : Router = record {
      node = c.self.inside.node;
      address = c.self.inside.address;
      table = c.self.inside.routes.table;
      waiting = c.self.inside.routes.waiting;
      is_begun = c.self.inside.routes.is_begun;
      changes = c.self.inside.routes.changes;
      ports = map g.E.PortEngine.seen c.self.inside.links.items;
    } in
    rw (← c.self.view_is) (λ numbers. c.cut_label.ensures.acted r numbers (one_node r c.self.inside.client c.self.invariant.linked))
