use Rattle.std.proofs.Common.{◌≡◌, ◌&&◌, ap, sym, subst, ◌∙◌}
use Rattle.adjacency_table.specs.Side.{is_estab}
use Rattle.port_model.specs.Saying.{halts_if_spent}
use Rattle.world_model.specs.Joins.{resets_spent}
use Rattle.world_model.specs.Performing.{resets_port, works}
use Rattle.controller_router.specs.Conditions.{CanResetPort}
use Rattle.controller_router.specs.Meeting.{CanResetSpent}
use Rattle.controller_router.specs.Node.{IsPlaceOf, Node, acted, ports_in}
use Rattle.controller_router.proofs.AtWork.{spent_can, spent_resets, spent_stays, unlinked}
use Rattle.controller_router.proofs.router.Router.is_spent.Goals as goal

pub returns-in_default-clause-stays : goal.returns-in_default-clause-stays
returns-in_default-clause-stays g c = λ notes numbers e.
    let a = acted g.E.PortEngine.seen c.args.self.now notes numbers in
    ap (works a (λ setup desk w. halts_if_spent w)) (sym (unlinked g.E.PortEngine.seen c.args.self.now c.args.port c.in_default.ensures.none))

pub returns-then-not-is_spent-clause-stays : goal.returns-then-not-is_spent-clause-stays
returns-then-not-is_spent-clause-stays g c = λ notes numbers e.
    let seen = g.E.PortEngine.seen in
    let place = subst (λ n. IsPlaceOf (ports_in seen n) c.args.port c.in-Some.place) (sym c.self.view_is) c.in-Some.ensures.some in
    let n0 : Node _ = record { node = c.self.inside.node; address = c.self.inside.address; routes = c.self.inside.routes; links = c.self.inside.links.items; client = c.self.inside.client } in
    let stays = ap (λ x. x && is_estab n0.client.adjacency.state) (sym c.is_spent.ensures ∙ c.if-not-is_spent.true) in
    rw (← c.self.view_is) (spent_stays seen n0 notes numbers c.args.port c.in-Some.place c.index.result.now c.self.invariant.linked place c.index.ensures stays)

pub returns-clause-stays : goal.returns-clause-stays
returns-clause-stays g c = λ notes numbers e.
    let seen = g.E.PortEngine.seen in
    let place = subst (λ n. IsPlaceOf (ports_in seen n) c.args.port c.in-Some.place) (sym c.self.view_is) c.in-Some.ensures.some in
    let n0 : Node _ = record { node = c.self.inside.node; address = c.self.inside.address; routes = c.self.inside.routes; links = c.self.inside.links.items; client = c.self.inside.client } in
    rw (← c.self.view_is) (spent_stays seen n0 notes numbers c.args.port c.in-Some.place c.index.result.now c.self.invariant.linked place c.index.ensures
    (λ i. (sym c.is_spent.ensures ∙ c.if-not-is_spent.false) i && (sym c.is_estab.ensures ∙ e) i))

pub returns-clause-can : goal.returns-clause-can
returns-clause-can g c = λ notes numbers e can.
    let seen = g.E.PortEngine.seen in
    let place = subst (λ n. IsPlaceOf (ports_in seen n) c.args.port c.in-Some.place) (sym c.self.view_is) c.in-Some.ensures.some in
    let n0 : Node _ = record { node = c.self.inside.node; address = c.self.inside.address; routes = c.self.inside.routes; links = c.self.inside.links.items; client = c.self.inside.client } in
    let can0 = subst (λ n. CanResetSpent (acted seen n notes numbers) c.args.port) (sym c.self.view_is) can in
    subst (λ n. CanResetPort (acted seen n notes numbers) c.args.port) c.self.view_is
    (spent_can seen n0 notes numbers c.args.port c.in-Some.place c.index.result.now c.self.invariant.linked place c.index.ensures (sym c.is_spent.ensures ∙ c.if-not-is_spent.false) (sym c.is_estab.ensures ∙ e) can0)

pub returns-clause-resets : goal.returns-clause-resets
returns-clause-resets g c = λ notes numbers e.
    let seen = g.E.PortEngine.seen in
    let place = subst (λ n. IsPlaceOf (ports_in seen n) c.args.port c.in-Some.place) (sym c.self.view_is) c.in-Some.ensures.some in
    let n0 : Node _ = record { node = c.self.inside.node; address = c.self.inside.address; routes = c.self.inside.routes; links = c.self.inside.links.items; client = c.self.inside.client } in
    subst (λ n. resets_port (acted seen n notes numbers) c.args.port ≡ resets_spent (acted seen n notes numbers) c.args.port) c.self.view_is
    (spent_resets seen n0 notes numbers c.args.port c.in-Some.place c.index.result.now c.self.invariant.linked place c.index.ensures (sym c.is_spent.ensures ∙ c.if-not-is_spent.false) (sym c.is_estab.ensures ∙ e))
