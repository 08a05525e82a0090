use Rattle.std.proofs.Common.{set, map, fold, ap, sym, subst, ◌∙◌}
use Rattle.std.proofs.lemmas.Result.{on_ok_weaker}
use Rattle.world_model.specs.Resets.{closes_by, port_restarts_of}
use Rattle.controller_router.specs.Conditions.{CutsItsLabels}
use Rattle.controller_router.specs.Node.{IsPlaceOf, Node, acted, ports_in, ports_of}
use Rattle.controller_router.proofs.AtWork.{closes_its, linked_after, places_after, ports_after, restart_done, unlinked}
use Rattle.controller_router.proofs.router.Router.restart_port.Goals as goal

pub returns-in_default-clause-acted : goal.returns-in_default-clause-acted
returns-in_default-clause-acted g c =
    let a = acted g.E.PortEngine.seen c.args.self.now c.args.notes.now c.args.numbers.now in
    ap (port_restarts_of a) (sym (unlinked g.E.PortEngine.seen c.args.self.now c.args.port c.in_default.ensures.none))

pub invariant_of-self : goal.invariant_of-self
invariant_of-self g c =
    let seen = g.E.PortEngine.seen in
    let is = c.self.view_is ∙ c.take_actions-actions.ensures.same in
    let place = subst (λ n. IsPlaceOf (ports_in seen n) c.args.port c.in-Some.place) (sym is) c.in-Some.ensures.some in
    record {
      linked = linked_after seen c.self.inside.links.items _ c.args.port c.in-Some.place c.index_mut.result.now _ c.self.invariant.linked place c.index_mut.ensures.value c.restart.ensures.setup;
      places = places_after seen c.self.inside.links.items _ c.args.port c.in-Some.place c.index_mut.result.now _ c.self.invariant.places place c.index_mut.ensures.value c.restart.ensures.setup;
      idle = c.self.invariant.idle;
    }

pub invariant_of-self-2 : goal.invariant_of-self-2
invariant_of-self-2 g c =
    let seen = g.E.PortEngine.seen in
    let is = c.self.view_is ∙ c.take_actions-actions.ensures.same in
    let place = subst (λ n. IsPlaceOf (ports_in seen n) c.args.port c.in-Some.place) (sym is) c.in-Some.ensures.some in
    record {
      linked = linked_after seen c.self.inside.links.items _ c.args.port c.in-Some.place c.index_mut.result.now _ c.self.invariant.linked place c.index_mut.ensures.value c.restart.ensures.setup;
      places = places_after seen c.self.inside.links.items _ c.args.port c.in-Some.place c.index_mut.result.now _ c.self.invariant.places place c.index_mut.ensures.value c.restart.ensures.setup;
      idle = c.self.invariant.idle;
    }

pub returns-in_err-restart-clause-ports : goal.returns-in_err-restart-clause-ports
returns-in_err-restart-clause-ports g c =
    let seen = g.E.PortEngine.seen in
    let is = c.self.view_is ∙ c.take_actions-actions.ensures.same in
    let place = subst (λ n. IsPlaceOf (ports_in seen n) c.args.port c.in-Some.place) (sym is) c.in-Some.ensures.some in
    ports_after seen c.self.inside.links.items c.args.port c.in-Some.place c.index_mut.result.now _ place c.index_mut.ensures.value c.restart.ensures.setup ∙ ap (ports_in seen) is

pub close_all-requires : goal.close_all-requires
close_all-requires g c =
    let seen = g.E.PortEngine.seen in
    let is = c.self.view_is ∙ c.take_actions-actions.ensures.same in
    let place = subst (λ n. IsPlaceOf (ports_in seen n) c.args.port c.in-Some.place) (sym is) c.in-Some.ensures.some in
    let cuts = subst (λ n. CutsItsLabels (acted seen n c.args.notes.now c.args.numbers.now) c.args.port) (sym is) c.requires.cuts in
    let done = rw c.take_actions-actions.ensures.actions at (c.in_ok-restart.ensures.work c.args.numbers.now.instances c.instance-own.ensures.next) in
    let n0 : Node _ = record { node = c.self.inside.node; address = c.self.inside.address; routes = c.self.inside.routes; links = c.self.inside.links.items; client = c.self.inside.client } in
    closes_its seen n0 c.args.notes.now c.args.numbers.now c.args.port c.in-Some.place c.index_mut.result.now c.restart.new.self c.restart.new.out c.self.invariant.linked place c.index_mut.ensures.value c.restart.ensures.setup done cuts

pub returns-clause-ports : goal.returns-clause-ports
returns-clause-ports g c =
    let seen = g.E.PortEngine.seen in
    let is = c.self.view_is ∙ c.take_actions-actions.ensures.same in
    let place = subst (λ n. IsPlaceOf (ports_in seen n) c.args.port c.in-Some.place) (sym is) c.in-Some.ensures.some in
    ap (λ links. ports_of (map seen links)) c.close_all.ensures.links ∙ ports_after seen c.self.inside.links.items c.args.port c.in-Some.place c.index_mut.result.now _ place c.index_mut.ensures.value c.restart.ensures.setup ∙ ap (ports_in seen) is

pub returns-clause-acted : goal.returns-clause-acted
returns-clause-acted g c =
    let seen = g.E.PortEngine.seen in
    let is = c.self.view_is ∙ c.take_actions-actions.ensures.same in
    let place = subst (λ n. IsPlaceOf (ports_in seen n) c.args.port c.in-Some.place) (sym is) c.in-Some.ensures.some in
    let done = rw c.take_actions-actions.ensures.actions at (c.in_ok-restart.ensures.work c.args.numbers.now.instances c.instance-own.ensures.next) in
    let n0 : Node _ = record { node = c.self.inside.node; address = c.self.inside.address; routes = c.self.inside.routes; links = c.self.inside.links.items; client = c.self.inside.client } in
    let all = restart_done seen n0 c.args.notes.now c.args.numbers.now c.args.port c.in-Some.place c.index_mut.result.now c.restart.new.self c.restart.new.out c.self.invariant.linked place c.index_mut.ensures.value c.restart.ensures.setup done in
    rw (← is) (on_ok_weaker c.close_all.result
    (λ e. e ∙ ap (λ numbers. fold (closes_by c.args.port) (acted seen (record n0 { links = set n0.links c.in-Some.place c.restart.new.self }) c.args.notes.now numbers) c.restart.new.out) c.instance-own.ensures.given ∙ all)
    (c.close_all.ensures.acted c.instance-own.new.self))
