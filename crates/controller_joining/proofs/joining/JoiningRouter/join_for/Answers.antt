use Rattle.std.proofs.Common.{List, ap, sym, ◌∙◌}
use Rattle.std.specs.Option.{option_map}
use Rattle.ipv4_forward.specs.declared.table.Route.{Route}
use Rattle.controller_joins.specs.world_model.Controller.{Linked, linked_at}
use Rattle.cut_through.specs.Plan.{way_of}
use Rattle.controller_joining.specs.Joining.{Joining, controller_of}
use Rattle.controller_joining.proofs.Tried.{join_is}
use Rattle.controller_joining.proofs.joining.JoiningRouter.join_for.Goals as goal

pub returns : goal.returns
returns g c =
    let seen = g.E.PortEngine.seen in
    let table = c.table.ensures ∙ ap (λ x. x.table) c.routes.ensures ∙ ap (λ (j : Joining _). j.router.routes.table) c.self.view_is in
    let way = sym (c.in_ok-port.ensures ∙ ap (λ (t : List Route). way_of t c.args.flow.now) table) in
    let port = c.in_ok-port.port in
    join_is (controller_of seen c.args.self.now) c.args.input c.args.flow.now port c.in_ok-grants.grants.now.grants c.in_ok-label.label
    (λ linked found. c.plans_are_the_controllers.ensures.grants (controller_of seen c.args.self.now) c.args.input c.args.flow.now port linked way found)
    (ap (λ (j : Joining _). option_map (λ (l : Linked). l.port.grants) (linked_at (controller_of seen j) port)) (sym c.self.view_is) ∙ c.in_ok-grants.ensures.some)
    c.in_ok-label.ensures.planned
