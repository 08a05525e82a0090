use Rattle.std.proofs.Common.{◌≡◌, ap, sym, subst, ◌∙◌, Some}
use Rattle.port_model.specs.Joins.{joined}
use Rattle.world_model.specs.Performing.{works}
use Rattle.controller_router.specs.Node.{IsPlaceOf, Node, acted, controller_of, ports_in}
use Rattle.controller_router.proofs.AtWork.{linked_after, places_after, ports_after, unlinked}
use Rattle.world_model.specs.Controller.{Linked, linked_at}
use Rattle.port_model.specs.Port.{Port}
use Rattle.controller_router.specs.Engine.{IsFree}
use Rattle.controller_router.proofs.Joined.{at_engine, joined_done}
use Rattle.controller_router.proofs.router.Router.join_label.Goals as goal

pub returns-in_default-clause-acted : goal.returns-in_default-clause-acted
returns-in_default-clause-acted g c = λ notes numbers.
    let a = acted g.E.PortEngine.seen c.args.self.now notes numbers in
    ap (works a (λ setup desk w. joined w c.args.label c.args.output)) (sym (unlinked g.E.PortEngine.seen c.args.self.now c.args.port c.in_default.ensures.none))

pub joined-requires : goal.joined-requires
joined-requires g c =
    let seen = g.E.PortEngine.seen in
    let is = c.self.view_is in
    let place = subst (λ n. IsPlaceOf (ports_in seen n) c.args.port c.in-Some.place) (sym is) c.in-Some.ensures.some in
    let n0 : Node _ = record { node = c.self.inside.node; address = c.self.inside.address; routes = c.self.inside.routes; links = c.self.inside.links.items; client = c.self.inside.client } in
    let free = subst (λ n. (linked : Linked) → linked_at (controller_of seen n) c.args.port ≡ Some linked → IsFree linked.port c.args.label) (sym is) c.requires in
    at_engine seen (λ (port : Port). IsFree port c.args.label) n0 c.args.port c.in-Some.place c.index_mut.result.now c.self.invariant.linked place c.index_mut.ensures.value free

pub invariant_of-self : goal.invariant_of-self
invariant_of-self g c =
    let seen = g.E.PortEngine.seen in
    let is = c.self.view_is in
    let place = subst (λ n. IsPlaceOf (ports_in seen n) c.args.port c.in-Some.place) (sym is) c.in-Some.ensures.some in
    record {
      linked = linked_after seen c.self.inside.links.items _ c.args.port c.in-Some.place c.index_mut.result.now _ c.self.invariant.linked place c.index_mut.ensures.value c.joined.ensures.setup;
      places = places_after seen c.self.inside.links.items _ c.args.port c.in-Some.place c.index_mut.result.now _ c.self.invariant.places place c.index_mut.ensures.value c.joined.ensures.setup;
      idle = c.self.invariant.idle;
    }

pub returns-clause-ports : goal.returns-clause-ports
returns-clause-ports g c =
    let seen = g.E.PortEngine.seen in
    let is = c.self.view_is in
    let place = subst (λ n. IsPlaceOf (ports_in seen n) c.args.port c.in-Some.place) (sym is) c.in-Some.ensures.some in
    ports_after seen c.self.inside.links.items c.args.port c.in-Some.place c.index_mut.result.now _ place c.index_mut.ensures.value c.joined.ensures.setup ∙ ap (ports_in seen) is

pub returns-clause-acted : goal.returns-clause-acted
returns-clause-acted g c =
    let seen = g.E.PortEngine.seen in
    let is = c.self.view_is in
    let place = subst (λ n. IsPlaceOf (ports_in seen n) c.args.port c.in-Some.place) (sym is) c.in-Some.ensures.some in
    let n0 : Node _ = record { node = c.self.inside.node; address = c.self.inside.address; routes = c.self.inside.routes; links = c.self.inside.links.items; client = c.self.inside.client } in
    rw (← is) (λ notes numbers. joined_done seen n0 notes numbers c.args.port c.in-Some.place c.index_mut.result.now c.joined.new.self c.args.label c.args.output c.self.invariant.linked place c.index_mut.ensures.value c.joined.ensures.setup c.joined.ensures.port)
