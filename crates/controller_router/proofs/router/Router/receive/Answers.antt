use Rattle.std.proofs.Common.{◌≡◌, true, map, ap, subst, sym, ◌∙◌}
use Rattle.std.proofs.lemmas.Result.{IfOk-weaker}
use Rattle.controller_link.specs.Cells.{is_channel}
use Rattle.controller_gsmp.specs.Client.{Client, Router, acted}
use Rattle.controller_router.specs.Node.{Node, ranges_in}
use Rattle.controller_router.proofs.AtWork.{ranges_are}
use Rattle.controller_router.proofs.Linked.{one_node}
use Rattle.controller_router.proofs.Receipts.{ok_both, receipt_is, receives}
use Rattle.controller_router.proofs.router.Router.receive.Goals as goal

pub receive-requires-clause-channel : goal.receive-requires-clause-channel
receive-requires-clause-channel g c =
    let n0 : Node _ = record { node = c.self.inside.node; address = c.self.inside.address; routes = c.self.inside.routes; links = c.self.inside.links.items; client = c.self.inside.client } in
    let can = subst (λ n. is_channel (ranges_in g.E.PortEngine.seen n) c.args.taker ≡ true) (sym c.self.view_is) c.requires.channel in
    subst (λ ranges. is_channel ranges c.args.taker ≡ true) (ranges_are g.E.PortEngine.seen n0 c.self.invariant.linked) can

pub returns-clause-acted : goal.returns-clause-acted
returns-clause-acted g c =
    let r : Router = record {
      node = c.self.inside.node;
      address = c.self.inside.address;
      table = c.self.inside.routes.table;
      waiting = c.self.inside.routes.waiting;
      is_begun = c.self.inside.routes.is_begun;
      changes = c.self.inside.routes.changes;
      ports = map g.E.PortEngine.seen c.self.inside.links.items;
    } in
    let node = one_node r c.self.inside.client c.self.invariant.linked in
    rw (← c.self.view_is) (λ t numbers is found. ok_both c.receive.result
    (λ cells notes. ap (λ (x : Client). acted r x c.receive.new.notes numbers) c.receive.ensures.rest ∙ receives r c.self.inside.client c.receive.new.self.control c.args.notes.now c.receive.new.notes numbers t c.args.taker c.args.cell.now node found is cells notes)
    c.receive.ensures.cells c.receive.ensures.notes)

pub returns-clause-payload : goal.returns-clause-payload
returns-clause-payload g c =
    let r : Router = record {
      node = c.self.inside.node;
      address = c.self.inside.address;
      table = c.self.inside.routes.table;
      waiting = c.self.inside.routes.waiting;
      is_begun = c.self.inside.routes.is_begun;
      changes = c.self.inside.routes.changes;
      ports = map g.E.PortEngine.seen c.self.inside.links.items;
    } in
    let node = one_node r c.self.inside.client c.self.invariant.linked in
    rw (← c.self.view_is) (λ t numbers is found. IfOk-weaker c.receive.result _ _
    (λ len payload. payload ∙ ap (λ given. given.payload) (receipt_is r c.self.inside.client c.args.notes.now numbers t c.args.taker c.args.cell.now node found is))
    c.receive.ensures.payload)
