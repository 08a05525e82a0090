use Rattle.std.proofs.Common.{ap, sym, subst, ◌∙◌}
use Rattle.std.proofs.lemmas.Result.{on_ok_weaker}
use Rattle.port_model.specs.Hearing.{hears}
use Rattle.world_model.specs.Performing.{works}
use Rattle.controller_router.specs.Conditions.{CanWork}
use Rattle.controller_router.specs.Node.{IsPlaceOf, Node, acted, ports_in}
use Rattle.controller_router.proofs.AtWork.{linked_after, places_after, ports_after, rule_can, rule_done, unlinked}
use Rattle.controller_router.proofs.router.Router.hear.Goals as goal

pub returns-in_default-clause-acted : goal.returns-in_default-clause-acted
returns-in_default-clause-acted g c =
    let a = acted g.E.PortEngine.seen c.args.self.now c.args.notes.now c.args.numbers.now in
    ap (works a (λ setup desk w. hears setup desk w c.args.source c.args.message.now)) (sym (unlinked g.E.PortEngine.seen c.args.self.now c.args.port c.in_default.ensures.none))

pub invariant_of-self : goal.invariant_of-self
invariant_of-self g c =
    let seen = g.E.PortEngine.seen in
    let is = c.self.view_is ∙ c.take_actions-actions.ensures.same in
    let place = subst (λ n. IsPlaceOf (ports_in seen n) c.args.port c.in-Some.place) (sym is) c.in-Some.ensures.some in
    record {
      linked = linked_after seen c.self.inside.links.items _ c.args.port c.in-Some.place c.index_mut.result.now _ c.self.invariant.linked place c.index_mut.ensures.value c.on_message.ensures.setup;
      places = places_after seen c.self.inside.links.items _ c.args.port c.in-Some.place c.index_mut.result.now _ c.self.invariant.places place c.index_mut.ensures.value c.on_message.ensures.setup;
      idle = c.self.invariant.idle;
    }

pub invariant_of-self-2 : goal.invariant_of-self-2
invariant_of-self-2 g c =
    let seen = g.E.PortEngine.seen in
    let is = c.self.view_is ∙ c.take_actions-actions.ensures.same in
    let place = subst (λ n. IsPlaceOf (ports_in seen n) c.args.port c.in-Some.place) (sym is) c.in-Some.ensures.some in
    record {
      linked = linked_after seen c.self.inside.links.items _ c.args.port c.in-Some.place c.index_mut.result.now _ c.self.invariant.linked place c.index_mut.ensures.value c.on_message.ensures.setup;
      places = places_after seen c.self.inside.links.items _ c.args.port c.in-Some.place c.index_mut.result.now _ c.self.invariant.places place c.index_mut.ensures.value c.on_message.ensures.setup;
      idle = c.self.invariant.idle;
    }

pub returns-in_err-on_message-clause-ports : goal.returns-in_err-on_message-clause-ports
returns-in_err-on_message-clause-ports g c =
    let seen = g.E.PortEngine.seen in
    let is = c.self.view_is ∙ c.take_actions-actions.ensures.same in
    let place = subst (λ n. IsPlaceOf (ports_in seen n) c.args.port c.in-Some.place) (sym is) c.in-Some.ensures.some in
    ports_after seen c.self.inside.links.items c.args.port c.in-Some.place c.index_mut.result.now _ place c.index_mut.ensures.value c.on_message.ensures.setup ∙ ap (ports_in seen) is

pub perform_all-requires : goal.perform_all-requires
perform_all-requires g c =
    let seen = g.E.PortEngine.seen in
    let is = c.self.view_is ∙ c.take_actions-actions.ensures.same in
    let place = subst (λ n. IsPlaceOf (ports_in seen n) c.args.port c.in-Some.place) (sym is) c.in-Some.ensures.some in
    let n0 : Node _ = record { node = c.self.inside.node; address = c.self.inside.address; routes = c.self.inside.routes; links = c.self.inside.links.items; client = c.self.inside.client } in
    let can = subst (λ n. CanWork (acted seen n c.args.notes.now c.args.numbers.now) c.args.port (λ setup desk w. hears setup desk w c.args.source c.args.message.now)) (sym is) c.requires.can in
    let done = rw (c.desk.ensures, c.requests.ensures, c.take_actions-actions.ensures.actions) at (c.in_ok-on_message.ensures.work c.args.numbers.now.instances) in
    rule_can seen (λ setup desk w. hears setup desk w c.args.source c.args.message.now) n0 c.args.notes.now c.args.numbers.now c.args.port c.in-Some.place c.index_mut.result.now c.on_message.new.self c.on_message.new.out c.self.invariant.linked place c.index_mut.ensures.value c.on_message.ensures.setup done can

pub returns-clause-ports : goal.returns-clause-ports
returns-clause-ports g c =
    let seen = g.E.PortEngine.seen in
    let is = c.self.view_is ∙ c.take_actions-actions.ensures.same in
    let place = subst (λ n. IsPlaceOf (ports_in seen n) c.args.port c.in-Some.place) (sym is) c.in-Some.ensures.some in
    c.perform_all.ensures.ports ∙ ports_after seen c.self.inside.links.items c.args.port c.in-Some.place c.index_mut.result.now _ place c.index_mut.ensures.value c.on_message.ensures.setup ∙ ap (ports_in seen) is

pub returns-clause-acted : goal.returns-clause-acted
returns-clause-acted g c =
    let seen = g.E.PortEngine.seen in
    let is = c.self.view_is ∙ c.take_actions-actions.ensures.same in
    let place = subst (λ n. IsPlaceOf (ports_in seen n) c.args.port c.in-Some.place) (sym is) c.in-Some.ensures.some in
    let n0 : Node _ = record { node = c.self.inside.node; address = c.self.inside.address; routes = c.self.inside.routes; links = c.self.inside.links.items; client = c.self.inside.client } in
    let done = rw (c.desk.ensures, c.requests.ensures, c.take_actions-actions.ensures.actions) at (c.in_ok-on_message.ensures.work c.args.numbers.now.instances) in
    let all = rule_done seen (λ setup desk w. hears setup desk w c.args.source c.args.message.now) n0 c.args.notes.now c.args.numbers.now c.args.port c.in-Some.place c.index_mut.result.now c.on_message.new.self c.on_message.new.out c.self.invariant.linked place c.index_mut.ensures.value c.on_message.ensures.setup done in
    rw (← is) (on_ok_weaker c.perform_all.result (λ e. e ∙ all) c.perform_all.ensures.acted)
