use Rattle.std.proofs.Common.{ap, sym, subst, ◌∙◌}
use Rattle.std.specs.Prelude.{slice_get}
use Rattle.std.proofs.lemmas.Option.{IfSome_then}
use Rattle.std.specs.Option.{option_and_then}
use Rattle.port_model.specs.Port.{label_at, labels_of}
use Rattle.world_model.specs.Controller.{Linked}
use Rattle.controller_router.specs.Node.{IsPlaceOf, Node, ports_in}
use Rattle.controller_router.proofs.AtWork.{node_found, unlinked}
use Rattle.controller_router.proofs.router.Router.label_at.Goals as goal

pub returns-in-Some-clause-label : goal.returns-in-Some-clause-label
returns-in-Some-clause-label g c =
    let seen = g.E.PortEngine.seen in
    let n0 : Node _ = record { node = c.self.inside.node; address = c.self.inside.address; routes = c.self.inside.routes; links = c.self.inside.links.items; client = c.self.inside.client } in
    let place = subst (λ n. IsPlaceOf (ports_in seen n) c.args.port c.in-Some.at) (sym c.self.view_is) c.in-Some.ensures.some in
    let f = node_found seen n0 c.args.port c.in-Some.at c.index.result.now c.self.invariant.linked place c.index.ensures in
    rw (← c.self.view_is) (c.held_at.ensures.label ∙ ap (option_and_then (λ (l : Linked). slice_get (labels_of l.port) c.args.place)) (sym f.is))

pub returns-in-None-clause-label : goal.returns-in-None-clause-label
returns-in-None-clause-label g c =
    ap (option_and_then (λ (l : Linked). slice_get (labels_of l.port) c.args.place)) (sym (unlinked g.E.PortEngine.seen c.args.self.now c.args.port c.in-None.ensures.none))

pub returns-in-Some-clause-held : goal.returns-in-Some-clause-held
returns-in-Some-clause-held g c =
    let seen = g.E.PortEngine.seen in
    let n0 : Node _ = record { node = c.self.inside.node; address = c.self.inside.address; routes = c.self.inside.routes; links = c.self.inside.links.items; client = c.self.inside.client } in
    let place = subst (λ n. IsPlaceOf (ports_in seen n) c.args.port c.in-Some.at) (sym c.self.view_is) c.in-Some.ensures.some in
    let f = node_found seen n0 c.args.port c.in-Some.at c.index.result.now c.self.invariant.linked place c.index.ensures in
    rw (← c.self.view_is) (IfSome_then c.held_at.result c.held_at.ensures.held (λ label held. ap (option_and_then (λ (l : Linked). label_at l.port label.number)) f.is ∙ held))
