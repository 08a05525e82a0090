use Rattle.std.proofs.Common.{◌≡◌, true, ◌&&◌, ap, sym, ◌∙◌}
use Rattle.port_model.specs.Desk.{Desk}
use Rattle.port_model.specs.Messages.{is_up}
use Rattle.world_model.specs.Meeting.{awaits_nothing}
use Rattle.controller_router.specs.Node.{Node, controller_of, router_of}
use Rattle.controller_router.proofs.router.Router.is_ready.Goals as goal

pub returns : goal.returns
returns g c =
    let seen = g.E.PortEngine.seen in
    let n0 : Node _ = record { node = c.self.inside.node; address = c.self.inside.address; routes = c.self.inside.routes; links = c.self.inside.links.items; client = c.self.inside.client } in
    let met : c.args.self.now.client.has_met ≡ true = ap (λ n. n.client.has_met) (sym c.self.view_is) ∙ sym c.has_met.ensures ∙ c.if-not-has_met.false in
    let up : is_up c.args.self.now.client.desk.rows c.args.port ≡ true =
    ap (λ n. is_up n.client.desk.rows c.args.port) (sym c.self.view_is) ∙ ap (λ (d : Desk). is_up d.rows c.args.port) (sym (c.desk.ensures ∙ c.requests.ensures)) ∙ sym c.is_up.ensures ∙ c.if-not-is_up.false in
    let awaits = c.awaits_nothing.ensures (router_of seen n0) ∙ ap (λ n. awaits_nothing (controller_of seen n) c.args.port) c.self.view_is in
    awaits ∙ sym (λ i. (met i && up i) && awaits_nothing (controller_of seen c.args.self.now) c.args.port)
