use Rattle.std.proofs.Common.{◌≡◌, ◌≢◌, None, Some, ap, sym, subst, ◌∙◌}
use Rattle.port_model.specs.Counting.{used}
use Rattle.port_state.specs.Engine.{flow_at}
use Rattle.world_model.specs.Performing.{works}
use Rattle.world_model.specs.Controller.{Linked, linked_at}
use Rattle.controller_router.specs.Node.{IsPlaceOf, Node, acted, controller_of, ports_in}
use Rattle.controller_router.proofs.AtWork.{is_bound_at, linked_after, places_after, ports_after, unlinked, used_done}
use Rattle.controller_router.proofs.router.Router.use_label.Goals as goal

pub returns-in_default-clause-acted : goal.returns-in_default-clause-acted
returns-in_default-clause-acted g c = λ notes numbers.
    let a = acted g.E.PortEngine.seen c.args.self.now notes numbers in
    ap (works a (λ setup desk w. used w c.args.label)) (sym (unlinked g.E.PortEngine.seen c.args.self.now c.args.port c.in_default.ensures.none))

pub used-requires : goal.used-requires
used-requires g c =
    let seen = g.E.PortEngine.seen in
    let is = c.self.view_is in
    let place = subst (λ n. IsPlaceOf (ports_in seen n) c.args.port c.in-Some.place) (sym is) c.in-Some.ensures.some in
    let n0 : Node _ = record { node = c.self.inside.node; address = c.self.inside.address; routes = c.self.inside.routes; links = c.self.inside.links.items; client = c.self.inside.client } in
    let bound = subst (λ n. (linked : Linked) → linked_at (controller_of seen n) c.args.port ≡ Some linked → flow_at linked.port c.args.label ≢ None) (sym is) c.requires in
    is_bound_at seen n0 c.args.port c.in-Some.place c.index_mut.result.now c.args.label c.self.invariant.linked place c.index_mut.ensures.value bound

pub invariant_of-self : goal.invariant_of-self
invariant_of-self g c =
    let seen = g.E.PortEngine.seen in
    let is = c.self.view_is in
    let place = subst (λ n. IsPlaceOf (ports_in seen n) c.args.port c.in-Some.place) (sym is) c.in-Some.ensures.some in
    record {
      linked = linked_after seen c.self.inside.links.items _ c.args.port c.in-Some.place c.index_mut.result.now _ c.self.invariant.linked place c.index_mut.ensures.value c.used.ensures.setup;
      places = places_after seen c.self.inside.links.items _ c.args.port c.in-Some.place c.index_mut.result.now _ c.self.invariant.places place c.index_mut.ensures.value c.used.ensures.setup;
      idle = c.self.invariant.idle;
    }

pub returns-clause-ports : goal.returns-clause-ports
returns-clause-ports g c =
    let seen = g.E.PortEngine.seen in
    let is = c.self.view_is in
    let place = subst (λ n. IsPlaceOf (ports_in seen n) c.args.port c.in-Some.place) (sym is) c.in-Some.ensures.some in
    ports_after seen c.self.inside.links.items c.args.port c.in-Some.place c.index_mut.result.now _ place c.index_mut.ensures.value c.used.ensures.setup ∙ ap (ports_in seen) is

pub returns-clause-acted : goal.returns-clause-acted
returns-clause-acted g c =
    let seen = g.E.PortEngine.seen in
    let is = c.self.view_is in
    let place = subst (λ n. IsPlaceOf (ports_in seen n) c.args.port c.in-Some.place) (sym is) c.in-Some.ensures.some in
    let n0 : Node _ = record { node = c.self.inside.node; address = c.self.inside.address; routes = c.self.inside.routes; links = c.self.inside.links.items; client = c.self.inside.client } in
    rw (← is) (λ notes numbers. used_done seen n0 notes numbers c.args.port c.in-Some.place c.index_mut.result.now c.used.new.self c.args.label c.self.invariant.linked place c.index_mut.ensures.value c.used.ensures.setup c.used.ensures.port)
