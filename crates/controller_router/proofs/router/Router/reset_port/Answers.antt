use Rattle.std.proofs.Common.{◌+◌, ◌<◌, ◌^◌, set, fold, ap, sym, subst, ◌∙◌, arith}
use Rattle.world_model.specs.Performing.{does_in_estab, resets_of}
use Rattle.controller_router.specs.Conditions.{CanResetPort, EachCanBeDone}
use Rattle.controller_router.specs.Node.{IsPlaceOf, Node, acted, ports_in}
use Rattle.controller_router.proofs.AtWork.{linked_after, places_after, ports_after, reset_can, reset_done, reset_instance, unlinked}
use Rattle.controller_router.proofs.router.Router.reset_port.Goals as goal

pub returns-in_default-clause-acted : goal.returns-in_default-clause-acted
returns-in_default-clause-acted g c =
    let a = acted g.E.PortEngine.seen c.args.self.now c.args.notes.now c.args.numbers.now in
    ap (resets_of a) (sym (unlinked g.E.PortEngine.seen c.args.self.now c.args.port c.in_default.ensures.none))

pub instance-requires : goal.instance-requires
instance-requires g c =
    let seen = g.E.PortEngine.seen in
    let is = c.self.view_is ∙ c.take_actions-actions.ensures.same in
    let place = subst (λ n. IsPlaceOf (ports_in seen n) c.args.port c.in-Some.place) (sym is) c.in-Some.ensures.some in
    let n0 : Node _ = record { node = c.self.inside.node; address = c.self.inside.address; routes = c.self.inside.routes; links = c.self.inside.links.items; client = c.self.inside.client } in
    let can = subst (λ n. CanResetPort (acted seen n c.args.notes.now c.args.numbers.now) c.args.port) (sym is) c.requires in
    let left : c.args.numbers.now.instances + 1 < 2 ^ 32 = reset_instance seen n0 c.args.notes.now c.args.numbers.now c.args.port c.in-Some.place c.index_mut-link.result.now c.self.invariant.linked place c.index_mut-link.ensures.value can in
    omega (arith, left)

pub invariant_of-self : goal.invariant_of-self
invariant_of-self g c =
    let seen = g.E.PortEngine.seen in
    let is = c.self.view_is ∙ c.take_actions-actions.ensures.same in
    let place = subst (λ n. IsPlaceOf (ports_in seen n) c.args.port c.in-Some.place) (sym is) c.in-Some.ensures.some in
    record {
      linked = linked_after seen c.self.inside.links.items _ c.args.port c.in-Some.place c.index_mut-link.result.now _ c.self.invariant.linked place c.index_mut-link.ensures.value c.reset.ensures.setup;
      places = places_after seen c.self.inside.links.items _ c.args.port c.in-Some.place c.index_mut-link.result.now _ c.self.invariant.places place c.index_mut-link.ensures.value c.reset.ensures.setup;
      idle = c.self.invariant.idle;
    }

pub invariant_of-self-2 : goal.invariant_of-self-2
invariant_of-self-2 g c =
    let seen = g.E.PortEngine.seen in
    let is = c.self.view_is ∙ c.take_actions-actions.ensures.same in
    let place = subst (λ n. IsPlaceOf (ports_in seen n) c.args.port c.in-Some.place) (sym is) c.in-Some.ensures.some in
    record {
      linked = linked_after seen c.self.inside.links.items _ c.args.port c.in-Some.place c.index_mut-link.result.now _ c.self.invariant.linked place c.index_mut-link.ensures.value c.reset.ensures.setup;
      places = places_after seen c.self.inside.links.items _ c.args.port c.in-Some.place c.index_mut-link.result.now _ c.self.invariant.places place c.index_mut-link.ensures.value c.reset.ensures.setup;
      idle = c.self.invariant.idle;
    }

pub returns-in_err-reset-clause-ports : goal.returns-in_err-reset-clause-ports
returns-in_err-reset-clause-ports g c =
    let seen = g.E.PortEngine.seen in
    let is = c.self.view_is ∙ c.take_actions-actions.ensures.same in
    let place = subst (λ n. IsPlaceOf (ports_in seen n) c.args.port c.in-Some.place) (sym is) c.in-Some.ensures.some in
    ports_after seen c.self.inside.links.items c.args.port c.in-Some.place c.index_mut-link.result.now _ place c.index_mut-link.ensures.value c.reset.ensures.setup ∙ ap (ports_in seen) is

pub act_all-requires : goal.act_all-requires
act_all-requires g c =
    let seen = g.E.PortEngine.seen in
    let is = c.self.view_is ∙ c.take_actions-actions.ensures.same in
    let place = subst (λ n. IsPlaceOf (ports_in seen n) c.args.port c.in-Some.place) (sym is) c.in-Some.ensures.some in
    let n0 : Node _ = record { node = c.self.inside.node; address = c.self.inside.address; routes = c.self.inside.routes; links = c.self.inside.links.items; client = c.self.inside.client } in
    let can = subst (λ n. CanResetPort (acted seen n c.args.notes.now c.args.numbers.now) c.args.port) (sym is) c.requires in
    let done = rw c.take_actions-actions.ensures.actions at (c.in_ok-reset.ensures.work c.args.numbers.now.instances c.instance.ensures.next) in
    subst (λ numbers. EachCanBeDone c.args.port (acted seen (record n0 { links = set n0.links c.in-Some.place c.reset.new.self }) c.args.notes.now numbers) c.reset.new.out) (sym c.instance.ensures.given)
    (reset_can seen n0 c.args.notes.now c.args.numbers.now c.args.port c.in-Some.place c.index_mut-link.result.now c.reset.new.self c.reset.new.out c.self.invariant.linked place c.index_mut-link.ensures.value c.reset.ensures.setup done can)

pub returns-in_err-act_all-clause-ports : goal.returns-in_err-act_all-clause-ports
returns-in_err-act_all-clause-ports g c =
    let seen = g.E.PortEngine.seen in
    let is = c.self.view_is ∙ c.take_actions-actions.ensures.same in
    let place = subst (λ n. IsPlaceOf (ports_in seen n) c.args.port c.in-Some.place) (sym is) c.in-Some.ensures.some in
    c.act_all.ensures.ports ∙ ports_after seen c.self.inside.links.items c.args.port c.in-Some.place c.index_mut-link.result.now _ place c.index_mut-link.ensures.value c.reset.ensures.setup ∙ ap (ports_in seen) is

pub returns-clause-ports : goal.returns-clause-ports
returns-clause-ports g c =
    let seen = g.E.PortEngine.seen in
    let is = c.self.view_is ∙ c.take_actions-actions.ensures.same in
    let place = subst (λ n. IsPlaceOf (ports_in seen n) c.args.port c.in-Some.place) (sym is) c.in-Some.ensures.some in
    ap (ports_in seen) c.keep_actions.ensures ∙ c.act_all.ensures.ports ∙ ports_after seen c.self.inside.links.items c.args.port c.in-Some.place c.index_mut-link.result.now _ place c.index_mut-link.ensures.value c.reset.ensures.setup ∙ ap (ports_in seen) is

pub returns-clause-acted : goal.returns-clause-acted
returns-clause-acted g c =
    let seen = g.E.PortEngine.seen in
    let is = c.self.view_is ∙ c.take_actions-actions.ensures.same in
    let place = subst (λ n. IsPlaceOf (ports_in seen n) c.args.port c.in-Some.place) (sym is) c.in-Some.ensures.some in
    let n0 : Node _ = record { node = c.self.inside.node; address = c.self.inside.address; routes = c.self.inside.routes; links = c.self.inside.links.items; client = c.self.inside.client } in
    let done = rw c.take_actions-actions.ensures.actions at (c.in_ok-reset.ensures.work c.args.numbers.now.instances c.instance.ensures.next) in
    let all = reset_done seen n0 c.args.notes.now c.args.numbers.now c.args.port c.in-Some.place c.index_mut-link.result.now c.reset.new.self c.reset.new.out c.self.invariant.linked place c.index_mut-link.ensures.value c.reset.ensures.setup done in
    rw (← is)
    (ap (λ n. acted seen n c.act_all.new.notes c.act_all.new.numbers) c.keep_actions.ensures ∙ c.in_ok-act_all.ensures.acted
    ∙ ap (λ numbers. fold (does_in_estab c.args.port) (acted seen (record n0 { links = set n0.links c.in-Some.place c.reset.new.self }) c.args.notes.now numbers) c.reset.new.out) c.instance.ensures.given ∙ all)
