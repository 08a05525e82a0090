use Rattle.std.proofs.Common.{◌≡◌, ◌==◌, ◌&&◌, true, length, ap, sym, subst, ◌∙◌}
use Rattle.port_model.specs.Messages.{is_up}
use Rattle.world_model.specs.Meeting.{awaits_nothing, clears_of, is_clearing}
use Rattle.controller_router.specs.Node.{IsPlaceOf, Node, acted, controller_of, ports_in}
use Rattle.controller_router.proofs.AtWork.{cleared_done, linked_after, place_within, places_after, port_is_linked, ports_after, same_at, uncleared, unlinked}
use Rattle.controller_router.proofs.router.Router.clear_port.Goals as goal

pub returns-in_default-clause-acted : goal.returns-in_default-clause-acted
returns-in_default-clause-acted g c = λ notes numbers.
    let a = acted g.E.PortEngine.seen c.args.self.now notes numbers in
    ap (clears_of a) (sym (unlinked g.E.PortEngine.seen c.args.self.now c.args.port c.in_default.ensures.none))

pub returns-then-not-is_clearing-clause-acted : goal.returns-then-not-is_clearing-clause-acted
returns-then-not-is_clearing-clause-acted g c =
    let seen = g.E.PortEngine.seen in
    let is = c.self.view_is in
    let place = subst (λ n. IsPlaceOf (ports_in seen n) c.args.port c.in-Some.place) (sym is) c.in-Some.ensures.some in
    let n0 : Node _ = record { node = c.self.inside.node; address = c.self.inside.address; routes = c.self.inside.routes; links = c.self.inside.links.items; client = c.self.inside.client } in
    let e = c.index-link.result.now in
    rw (← is) (λ notes numbers. uncleared seen n0 notes numbers c.args.port c.in-Some.place e c.self.invariant.linked place c.index-link.ensures (λ i. ((sym c.is_clearing.ensures ∙ c.if-not-is_clearing.true) i && length (seen e).port.grants == 0) && ((n0.client.has_met && is_up n0.client.desk.rows c.args.port) && awaits_nothing (controller_of seen n0) c.args.port)))

pub returns-then-not-has_no_grant-clause-acted : goal.returns-then-not-has_no_grant-clause-acted
returns-then-not-has_no_grant-clause-acted g c =
    let seen = g.E.PortEngine.seen in
    let is = c.self.view_is in
    let place = subst (λ n. IsPlaceOf (ports_in seen n) c.args.port c.in-Some.place) (sym is) c.in-Some.ensures.some in
    let n0 : Node _ = record { node = c.self.inside.node; address = c.self.inside.address; routes = c.self.inside.routes; links = c.self.inside.links.items; client = c.self.inside.client } in
    let e = c.index-link.result.now in
    rw (← is) (λ notes numbers. uncleared seen n0 notes numbers c.args.port c.in-Some.place e c.self.invariant.linked place c.index-link.ensures (λ i. ((sym c.is_clearing.ensures ∙ c.if-not-is_clearing.false) i && (sym c.has_no_grant.ensures ∙ c.if-not-has_no_grant.true) i) && ((n0.client.has_met && is_up n0.client.desk.rows c.args.port) && awaits_nothing (controller_of seen n0) c.args.port)))

pub is_ready-requires : goal.is_ready-requires
is_ready-requires g c =
    let seen = g.E.PortEngine.seen in
    let is = c.self.view_is in
    let place = subst (λ n. IsPlaceOf (ports_in seen n) c.args.port c.in-Some.place) (sym is) c.in-Some.ensures.some in
    let n0 : Node _ = record { node = c.self.inside.node; address = c.self.inside.address; routes = c.self.inside.routes; links = c.self.inside.links.items; client = c.self.inside.client } in
    port_is_linked seen n0 c.args.port c.in-Some.place c.index-link.result.now c.self.invariant.linked place c.index-link.ensures

pub returns-else-is_ready-clause-acted : goal.returns-else-is_ready-clause-acted
returns-else-is_ready-clause-acted g c =
    let seen = g.E.PortEngine.seen in
    let is = c.self.view_is in
    let place = subst (λ n. IsPlaceOf (ports_in seen n) c.args.port c.in-Some.place) (sym is) c.in-Some.ensures.some in
    let n0 : Node _ = record { node = c.self.inside.node; address = c.self.inside.address; routes = c.self.inside.routes; links = c.self.inside.links.items; client = c.self.inside.client } in
    let e = c.index-link.result.now in
    let ready = ap (λ n. (n.client.has_met && is_up n.client.desk.rows c.args.port) && awaits_nothing (controller_of seen n) c.args.port) is ∙ sym c.is_ready.ensures ∙ c.if-is_ready.false in
    rw (← is) (λ notes numbers. uncleared seen n0 notes numbers c.args.port c.in-Some.place e c.self.invariant.linked place c.index-link.ensures (λ i. ((sym c.is_clearing.ensures ∙ c.if-not-is_clearing.false) i && (sym c.has_no_grant.ensures ∙ c.if-not-has_no_grant.false) i) && ready i))

pub invariant_of-self : goal.invariant_of-self
invariant_of-self g c =
    let seen = g.E.PortEngine.seen in
    let is = c.self.view_is in
    let place = subst (λ n. IsPlaceOf (ports_in seen n) c.args.port c.in-Some.place) (sym is) c.in-Some.ensures.some in
    record {
      linked = linked_after seen c.self.inside.links.items _ c.args.port c.in-Some.place c.index_mut.result.now _ c.self.invariant.linked place c.index_mut.ensures.value c.cleared.ensures.setup;
      places = places_after seen c.self.inside.links.items _ c.args.port c.in-Some.place c.index_mut.result.now _ c.self.invariant.places place c.index_mut.ensures.value c.cleared.ensures.setup;
      idle = c.self.invariant.idle;
    }

pub returns-then-is_ready-clause-ports : goal.returns-then-is_ready-clause-ports
returns-then-is_ready-clause-ports g c =
    let seen = g.E.PortEngine.seen in
    let is = c.self.view_is in
    let place = subst (λ n. IsPlaceOf (ports_in seen n) c.args.port c.in-Some.place) (sym is) c.in-Some.ensures.some in
    ports_after seen c.self.inside.links.items c.args.port c.in-Some.place c.index_mut.result.now _ place c.index_mut.ensures.value c.cleared.ensures.setup ∙ ap (ports_in seen) is

pub returns-then-is_ready-clause-acted : goal.returns-then-is_ready-clause-acted
returns-then-is_ready-clause-acted g c =
    let seen = g.E.PortEngine.seen in
    let is = c.self.view_is in
    let place = subst (λ n. IsPlaceOf (ports_in seen n) c.args.port c.in-Some.place) (sym is) c.in-Some.ensures.some in
    let n0 : Node _ = record { node = c.self.inside.node; address = c.self.inside.address; routes = c.self.inside.routes; links = c.self.inside.links.items; client = c.self.inside.client } in
    let e = c.index_mut.result.now in
    let same = same_at seen n0.links c.in-Some.place c.index-link.result.now e (place_within seen n0.links c.args.port c.in-Some.place place) c.index-link.ensures c.index_mut.ensures.value in
    let quiet = subst (λ x. (is_clearing (seen x).port.adjacency.state && length (seen x).port.grants == 0) ≡ true) same (λ i. (sym c.is_clearing.ensures ∙ c.if-not-is_clearing.false) i && (sym c.has_no_grant.ensures ∙ c.if-not-has_no_grant.false) i) in
    let ready = ap (λ n. (n.client.has_met && is_up n.client.desk.rows c.args.port) && awaits_nothing (controller_of seen n) c.args.port) is ∙ sym c.is_ready.ensures ∙ c.if-is_ready.true in
    rw (← is) (λ notes numbers. cleared_done seen n0 notes numbers c.args.port c.in-Some.place e c.cleared.new.self c.self.invariant.linked place c.index_mut.ensures.value c.cleared.ensures.setup c.cleared.ensures.port quiet ready)
