use Rattle.std.proofs.Common.{◌≡◌, ◌==◌, true, false, map, refl, sym, ◌∙◌}
use Rattle.std.proofs.lemmas.Result.{on_ok_weaker}
use Rattle.adjacency_table.specs.Side.{is_estab}
use Rattle.gsmp_wire.specs.declared.request.Request.{Request}
use Rattle.port_model.specs.Desk.{last_transaction}
use Rattle.world_model.specs.Controller.{Acted}
use Rattle.world_model.specs.Asking.{asks, asks_next}
use Rattle.controller_gsmp.specs.Client as client
use Rattle.controller_gsmp.specs.Client.{Router}
use Rattle.controller_router.proofs.Linked.{one_node}
use Rattle.controller_router.proofs.router.Router.ask.Goals as goal

asks_is : (a : Acted) (request : Request) → is_estab a.controller.adjacency.state ≡ true → (a.controller.desk.next == last_transaction) ≡ false → asks a request ≡ asks_next a request
asks_is a request estab left = rw (estab, left) refl

pub returns-clause-acted : goal.returns-clause-acted
returns-clause-acted g c =
    let r : Router = record {
      node = c.self.inside.node;
      address = c.self.inside.address;
      table = c.self.inside.routes.table;
      waiting = c.self.inside.routes.waiting;
      is_begun = c.self.inside.routes.is_begun;
      changes = c.self.inside.routes.changes;
      ports = map g.E.PortEngine.seen c.self.inside.links.items;
    } in
    let estab : is_estab c.self.inside.client.adjacency.state ≡ true = sym c.is_estab.ensures ∙ c.if-not-is_estab.false in
    let left : (c.self.inside.client.desk.next == last_transaction) ≡ false = sym c.is_spent.ensures ∙ c.if-is_spent.false in
    rw (← c.self.view_is) (on_ok_weaker c.ask.result (λ e. e ∙ sym (asks_is (client.acted r c.self.inside.client c.args.notes.now c.args.numbers.now) c.args.request estab left)) (c.ask.ensures.acted r (one_node r c.self.inside.client c.self.invariant.linked)))
