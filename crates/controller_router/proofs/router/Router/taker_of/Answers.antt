use Rattle.std.proofs.Common.{Bool, Some, ap, map, sym, ◌∙◌, if◌then◌else◌}
use Rattle.std.specs.Option.{option_map}
use Rattle.world_model.specs.Controller.{linked_at}
use Rattle.world_model.specs.Cells.{ForGsmp, on_link, port_on, taker_at}
use Rattle.controller_router.specs.Cells.{channel_of}
use Rattle.controller_router.specs.Node.{controller_of}
use Rattle.controller_router.proofs.AtWork.{unlinked}
use Rattle.controller_router.proofs.Linked.{at_above}
use Rattle.controller_router.proofs.router.Router.taker_of.Goals as goal

pub returns-then-port-gt-LAST_PORT : goal.returns-then-port-gt-LAST_PORT
returns-then-port-gt-LAST_PORT g c =
    let seen = g.E.PortEngine.seen in
    let channel = c.args.channel in
    let n = c.args.self.now in
    let none = unlinked seen n (port_on channel) (at_above (map seen n.links) (port_on channel) c.ports-linked.ensures.are c.if-port-gt-LAST_PORT.true) in
    ap (λ o. option_map channel_of (taker_at o (on_link channel))) (sym none)
    ∙ ap (λ (b : Bool). option_map channel_of (if b then Some ForGsmp else taker_at (linked_at (controller_of seen n) (port_on channel)) (on_link channel))) (sym (sym c.is_default.ensures ∙ c.if-is_default.false))
