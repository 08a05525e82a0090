use Rattle.std.proofs.Common.{◌≡◌, ap, sym, subst, ◌∙◌, Some}
use Rattle.std.specs.Prelude.{IsSome}
use Rattle.std.proofs.lemmas.Result.{on_ok_weaker}
use Rattle.keyed_lists.specs.Keyed.{at}
use Rattle.port_model.specs.Grants.{Grant, grant_label}
use Rattle.port_model.specs.Joins.{given_back}
use Rattle.port_model.specs.Port.{Port}
use Rattle.world_model.specs.Controller.{Linked, linked_at}
use Rattle.controller_router.specs.Conditions.{CanWork}
use Rattle.controller_router.specs.Engine.{IsReleased}
use Rattle.controller_router.specs.Node.{IsPlaceOf, Node, acted, controller_of, ports_in}
use Rattle.controller_router.proofs.AtWork.{linked_after, places_after, ports_after, unlinked}
use Rattle.controller_router.proofs.Joined.{at_engine, back_can, back_done, granted_at}
use Rattle.controller_router.proofs.router.Router.give_back.Goals as goal

pub unreachable-requires : goal.unreachable-requires
unreachable-requires g c =
    let some = subst IsSome (unlinked g.E.PortEngine.seen c.args.self.now c.args.port c.in_default.ensures.none) c.requires.linked in
    cc some

pub invariant_of-self : goal.invariant_of-self
invariant_of-self g c =
    let seen = g.E.PortEngine.seen in
    let is = c.self.view_is ∙ c.take_actions-actions.ensures.same in
    let place = subst (λ n. IsPlaceOf (ports_in seen n) c.args.port c.in-Some.place) (sym is) c.in-Some.ensures.some in
    record {
      linked = linked_after seen c.self.inside.links.items _ c.args.port c.in-Some.place c.index_mut.result.now _ c.self.invariant.linked place c.index_mut.ensures.value c.back.ensures.setup;
      places = places_after seen c.self.inside.links.items _ c.args.port c.in-Some.place c.index_mut.result.now _ c.self.invariant.places place c.index_mut.ensures.value c.back.ensures.setup;
      idle = c.self.invariant.idle;
    }

pub invariant_of-self-2 : goal.invariant_of-self-2
invariant_of-self-2 g c =
    let seen = g.E.PortEngine.seen in
    let is = c.self.view_is ∙ c.take_actions-actions.ensures.same in
    let place = subst (λ n. IsPlaceOf (ports_in seen n) c.args.port c.in-Some.place) (sym is) c.in-Some.ensures.some in
    record {
      linked = linked_after seen c.self.inside.links.items _ c.args.port c.in-Some.place c.index_mut.result.now _ c.self.invariant.linked place c.index_mut.ensures.value c.back.ensures.setup;
      places = places_after seen c.self.inside.links.items _ c.args.port c.in-Some.place c.index_mut.result.now _ c.self.invariant.places place c.index_mut.ensures.value c.back.ensures.setup;
      idle = c.self.invariant.idle;
    }

pub returns-in_err-back-clause-ports : goal.returns-in_err-back-clause-ports
returns-in_err-back-clause-ports g c =
    let seen = g.E.PortEngine.seen in
    let is = c.self.view_is ∙ c.take_actions-actions.ensures.same in
    let place = subst (λ n. IsPlaceOf (ports_in seen n) c.args.port c.in-Some.place) (sym is) c.in-Some.ensures.some in
    ports_after seen c.self.inside.links.items c.args.port c.in-Some.place c.index_mut.result.now _ place c.index_mut.ensures.value c.back.ensures.setup ∙ ap (ports_in seen) is

pub back-requires : goal.back-requires
back-requires g c =
    let seen = g.E.PortEngine.seen in
    let is = c.self.view_is ∙ c.take_actions-actions.ensures.same in
    let place = subst (λ n. IsPlaceOf (ports_in seen n) c.args.port c.in-Some.place) (sym is) c.in-Some.ensures.some in
    let n0 : Node _ = record { node = c.self.inside.node; address = c.self.inside.address; routes = c.self.inside.routes; links = c.self.inside.links.items; client = c.self.inside.client } in
    at_engine seen (λ (port : Port). IsReleased c.args.done.now.request port c.args.label) n0 c.args.port c.in-Some.place c.index_mut.result.now c.self.invariant.linked place c.index_mut.ensures.value
    (subst (λ n. (linked : Linked) → linked_at (controller_of seen n) c.args.port ≡ Some linked → IsReleased c.args.done.now.request linked.port c.args.label) (sym is) c.requires.released)

pub perform_all-requires : goal.perform_all-requires
perform_all-requires g c =
    let seen = g.E.PortEngine.seen in
    let is = c.self.view_is ∙ c.take_actions-actions.ensures.same in
    let place = subst (λ n. IsPlaceOf (ports_in seen n) c.args.port c.in-Some.place) (sym is) c.in-Some.ensures.some in
    let n0 : Node _ = record { node = c.self.inside.node; address = c.self.inside.address; routes = c.self.inside.routes; links = c.self.inside.links.items; client = c.self.inside.client } in
    let released = at_engine seen (λ (port : Port). IsReleased c.args.done.now.request port c.args.label) n0 c.args.port c.in-Some.place c.index_mut.result.now c.self.invariant.linked place c.index_mut.ensures.value
    (subst (λ n. (linked : Linked) → linked_at (controller_of seen n) c.args.port ≡ Some linked → IsReleased c.args.done.now.request linked.port c.args.label) (sym is) c.requires.released) in
    let can = subst (λ n. (linked : Linked) (grant : Grant) → linked_at (controller_of seen n) c.args.port ≡ Some linked → at grant_label c.args.label linked.port.grants ≡ Some grant → CanWork (acted seen n c.args.notes.now c.args.numbers.now) c.args.port (λ setup desk w. given_back w grant)) (sym is) c.requires.can in
    let done = rw c.take_actions-actions.ensures.actions at (c.in_ok-back.ensures.work c.args.numbers.now.instances released.grant released.granted) in
    back_can seen n0 c.args.notes.now c.args.numbers.now c.args.port c.in-Some.place c.index_mut.result.now c.back.new.self c.back.new.out c.args.label released.grant c.self.invariant.linked place c.index_mut.ensures.value c.back.ensures.setup released.granted done can

pub returns-clause-ports : goal.returns-clause-ports
returns-clause-ports g c =
    let seen = g.E.PortEngine.seen in
    let is = c.self.view_is ∙ c.take_actions-actions.ensures.same in
    let place = subst (λ n. IsPlaceOf (ports_in seen n) c.args.port c.in-Some.place) (sym is) c.in-Some.ensures.some in
    c.perform_all.ensures.ports ∙ ports_after seen c.self.inside.links.items c.args.port c.in-Some.place c.index_mut.result.now _ place c.index_mut.ensures.value c.back.ensures.setup ∙ ap (ports_in seen) is

pub returns-clause-acted : goal.returns-clause-acted
returns-clause-acted g c =
    let seen = g.E.PortEngine.seen in
    let is = c.self.view_is ∙ c.take_actions-actions.ensures.same in
    let place = subst (λ n. IsPlaceOf (ports_in seen n) c.args.port c.in-Some.place) (sym is) c.in-Some.ensures.some in
    let n0 : Node _ = record { node = c.self.inside.node; address = c.self.inside.address; routes = c.self.inside.routes; links = c.self.inside.links.items; client = c.self.inside.client } in
    rw (← is) (λ linked grant found granted.
    let here = granted_at seen n0 c.args.port c.in-Some.place c.index_mut.result.now c.args.label linked grant c.self.invariant.linked place c.index_mut.ensures.value found granted in
    let done = rw c.take_actions-actions.ensures.actions at (c.in_ok-back.ensures.work c.args.numbers.now.instances grant here) in
    let all = back_done seen n0 c.args.notes.now c.args.numbers.now c.args.port c.in-Some.place c.index_mut.result.now c.back.new.self c.back.new.out grant c.self.invariant.linked place c.index_mut.ensures.value c.back.ensures.setup done in
    on_ok_weaker c.perform_all.result (λ e. e ∙ all) c.perform_all.ensures.acted)
