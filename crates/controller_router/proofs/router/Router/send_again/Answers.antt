use Rattle.std.proofs.Common.{◌≡◌, true, false, fold, map, refl, sym, ap, ◌∙◌}
use Rattle.std.proofs.lemmas.Result.{on_ok_weaker}
use Rattle.adjacency_table.specs.Side.{is_estab}
use Rattle.port_model.specs.Desk.{sent_again}
use Rattle.world_model.specs.Asking.{sends_request}
use Rattle.world_model.specs.Controller.{Acted}
use Rattle.world_model.specs.Ticks.{sends_again}
use Rattle.controller_gsmp.specs.Client as client
use Rattle.controller_gsmp.specs.Client.{Router}
use Rattle.controller_router.specs.Node.{Node, acted}
use Rattle.controller_router.proofs.Linked.{one_node}
use Rattle.controller_router.proofs.router.Router.send_again.Goals as goal

again_is : (a : Acted) → is_estab a.controller.adjacency.state ≡ true → sends_again a ≡ fold sends_request a (sent_again a.controller.desk)
again_is a estab = rw estab refl

nothing_sent : (a : Acted) → is_estab a.controller.adjacency.state ≡ false → a ≡ sends_again a
nothing_sent a estab = rw estab refl

pub returns-then-not-is_estab-clause-acted : goal.returns-then-not-is_estab-clause-acted
returns-then-not-is_estab-clause-acted g c = nothing_sent (acted g.E.PortEngine.seen c.args.self.now c.args.notes.now c.args.numbers.now) (ap (λ (n : Node _). is_estab n.client.adjacency.state) (sym c.self.view_is) ∙ sym c.is_estab.ensures ∙ c.if-not-is_estab.true)

pub returns-clause-acted : goal.returns-clause-acted
returns-clause-acted g c =
    let r : Router = record {
      node = c.self.inside.node;
      address = c.self.inside.address;
      table = c.self.inside.routes.table;
      waiting = c.self.inside.routes.waiting;
      is_begun = c.self.inside.routes.is_begun;
      changes = c.self.inside.routes.changes;
      ports = map g.E.PortEngine.seen c.self.inside.links.items;
    } in
    let estab : is_estab c.self.inside.client.adjacency.state ≡ true = sym c.is_estab.ensures ∙ c.if-not-is_estab.false in
    rw (← c.self.view_is) (on_ok_weaker c.send_again.result (λ e. e ∙ sym (again_is (client.acted r c.self.inside.client c.args.notes.now c.args.numbers.now) estab)) (c.send_again.ensures.acted r (one_node r c.self.inside.client c.self.invariant.linked)))
