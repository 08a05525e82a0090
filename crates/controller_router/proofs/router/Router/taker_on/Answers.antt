use Rattle.std.proofs.Common.{ap, sym, subst, ◌∙◌}
use Rattle.std.specs.Option.{option_map}
use Rattle.world_model.specs.Cells.{taker_at}
use Rattle.controller_gsmp.specs.Client.{linked_of}
use Rattle.controller_router.specs.Cells.{channel_of}
use Rattle.controller_router.specs.Node.{IsPlaceOf, Node, ports_in}
use Rattle.controller_router.proofs.AtWork.{node_found, unlinked}
use Rattle.controller_router.proofs.Takers.{default_taker, label_taker_is, labelled}
use Rattle.controller_router.proofs.router.Router.taker_on.Goals as goal

pub returns-in_default : goal.returns-in_default
returns-in_default g c =
    ap (λ o. option_map channel_of (taker_at o c.args.channel)) (sym (unlinked g.E.PortEngine.seen c.args.self.now c.args.port c.in_default.ensures.none))

pub returns-then-is_default : goal.returns-then-is_default
returns-then-is_default g c =
    let seen = g.E.PortEngine.seen in
    let n0 : Node _ = record { node = c.self.inside.node; address = c.self.inside.address; routes = c.self.inside.routes; links = c.self.inside.links.items; client = c.self.inside.client } in
    let place = subst (λ n. IsPlaceOf (ports_in seen n) c.args.port c.in-Some.place) (sym c.self.view_is) c.in-Some.ensures.some in
    let f = node_found seen n0 c.args.port c.in-Some.place c.index-link.result.now c.self.invariant.linked place c.index-link.ensures in
    let l = linked_of (seen c.index-link.result.now) f.part in
    let at = ap (λ o. option_map channel_of (taker_at o c.args.channel)) (sym f.is) in
    rw (← c.self.view_is) (default_taker l c.args.port f.own c.args.channel (sym c.is_default.ensures ∙ c.if-is_default.true) ∙ at)

pub returns-in-Some-flow_of : goal.returns-in-Some-flow_of
returns-in-Some-flow_of g c =
    let seen = g.E.PortEngine.seen in
    let n0 : Node _ = record { node = c.self.inside.node; address = c.self.inside.address; routes = c.self.inside.routes; links = c.self.inside.links.items; client = c.self.inside.client } in
    let place = subst (λ n. IsPlaceOf (ports_in seen n) c.args.port c.in-Some.place) (sym c.self.view_is) c.in-Some.ensures.some in
    let f = node_found seen n0 c.args.port c.in-Some.place c.index-link.result.now c.self.invariant.linked place c.index-link.ensures in
    let l = linked_of (seen c.index-link.result.now) f.part in
    let at = ap (λ o. option_map channel_of (taker_at o c.args.channel)) (sym f.is) in
    let number = c.in-Some-label_number.number in
    let flow = ap (labelled c.args.port number) (sym c.in-Some-flow_of.is ∙ c.flow_of.ensures) in
    rw (← c.self.view_is) (flow ∙ label_taker_is l c.args.port f.own c.args.channel number (sym c.is_default.ensures ∙ c.if-is_default.false) (sym c.label_number.ensures ∙ c.in-Some-label_number.is) ∙ at)

pub returns-in-None : goal.returns-in-None
returns-in-None g c =
    let seen = g.E.PortEngine.seen in
    let n0 : Node _ = record { node = c.self.inside.node; address = c.self.inside.address; routes = c.self.inside.routes; links = c.self.inside.links.items; client = c.self.inside.client } in
    let place = subst (λ n. IsPlaceOf (ports_in seen n) c.args.port c.in-Some.place) (sym c.self.view_is) c.in-Some.ensures.some in
    let f = node_found seen n0 c.args.port c.in-Some.place c.index-link.result.now c.self.invariant.linked place c.index-link.ensures in
    let l = linked_of (seen c.index-link.result.now) f.part in
    let at = ap (λ o. option_map channel_of (taker_at o c.args.channel)) (sym f.is) in
    let number = c.in-Some-label_number.number in
    let flow = ap (labelled c.args.port number) (sym c.in-None.is ∙ c.flow_of.ensures) in
    rw (← c.self.view_is) (flow ∙ label_taker_is l c.args.port f.own c.args.channel number (sym c.is_default.ensures ∙ c.if-is_default.false) (sym c.label_number.ensures ∙ c.in-Some-label_number.is) ∙ at)
