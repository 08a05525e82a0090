use Rattle.std.proofs.Common.{drop, length, ap, sym, subst, ◌∙◌, arith}
use Rattle.std.specs.Prelude.{slice_get}
use Rattle.std.specs.List.{list_any}
use Rattle.controller_joins.specs.world_model.Controller.{Acted}
use Rattle.controller_joins.specs.world_model.Changes.{begins_change, is_changed, takes_change, takes_changes}
use Rattle.controller_joins.specs.world_model.Joins.{joins_of}
use Rattle.law_join_facts.specs.Joins.{joined_in}
use Rattle.controller_joining.specs.Conditions.{CanTakeChanges}
use Rattle.controller_joining.specs.Joining.{Joining, acted, controller_of}
use Rattle.controller_joining.proofs.Changes.{cannot, first_begins, first_grants, first_is, goes_on, grants_on, held, may, none_waits, rest_can, stops, takes_none}
use Rattle.controller_joining.proofs.joining.JoiningRouter.take_changes.Goals as goal

pub returns-in_default-clause-acted : goal.returns-in_default-clause-acted
returns-in_default-clause-acted g c =
    let seen = g.E.PortEngine.seen in
    let j = c.loop-self.self in
    let a = acted seen j c.loop-self.notes c.loop-self.numbers in
    let inv = c.loop-self.invariant in
    let met = ap (λ (x : Joining _). x.router.client.has_met) (sym c.self.view_is) ∙ ap (λ x. x.has_met) (sym c.client.ensures) ∙ sym c.has_met.ensures ∙ c.loop-self-test.true in
    let none = none_waits a.controller.waiting (ap (λ (x : Joining _). slice_get x.router.routes.waiting 0) (sym c.self.view_is) ∙ ap (λ r. slice_get r.waiting 0) (sym c.routes.ensures) ∙ sym c.first.ensures ∙ c.in_default.is) in
    takes_none a met none ∙ inv.acted

pub begin_change-requires-clause-grants : goal.begin_change-requires-clause-grants
begin_change-requires-clause-grants g c =
    let seen = g.E.PortEngine.seen in
    let j = c.loop-self.self in
    let a = acted seen j c.loop-self.notes c.loop-self.numbers in
    let inv = c.loop-self.invariant in
    let met = ap (λ (x : Joining _). x.router.client.has_met) (sym c.self.view_is) ∙ ap (λ x. x.has_met) (sym c.client.ensures) ∙ sym c.has_met.ensures ∙ c.loop-self-test.true in
    let change = c.in-Some.change in
    let later = drop 1 a.controller.waiting in
    let waits = first_is a.controller.waiting change (ap (λ (x : Joining _). slice_get x.router.routes.waiting 0) (sym c.self.view_is) ∙ ap (λ r. slice_get r.waiting 0) (sym c.routes.ensures) ∙ sym c.first.ensures ∙ c.in-Some.is) in
    first_grants a change later met waits inv.can

pub begin_change-requires-clause-can : goal.begin_change-requires-clause-can
begin_change-requires-clause-can g c =
    let seen = g.E.PortEngine.seen in
    let j = c.loop-self.self in
    let a = acted seen j c.loop-self.notes c.loop-self.numbers in
    let inv = c.loop-self.invariant in
    let met = ap (λ (x : Joining _). x.router.client.has_met) (sym c.self.view_is) ∙ ap (λ x. x.has_met) (sym c.client.ensures) ∙ sym c.has_met.ensures ∙ c.loop-self-test.true in
    let change = c.in-Some.change in
    let later = drop 1 a.controller.waiting in
    let waits = first_is a.controller.waiting change (ap (λ (x : Joining _). slice_get x.router.routes.waiting 0) (sym c.self.view_is) ∙ ap (λ r. slice_get r.waiting 0) (sym c.routes.ensures) ∙ sym c.first.ensures ∙ c.in-Some.is) in
    first_begins a change later met waits inv.can

pub returns-then-not-has_met-clause-acted : goal.returns-then-not-has_met-clause-acted
returns-then-not-has_met-clause-acted g c =
    let seen = g.E.PortEngine.seen in
    let j = c.loop-self.self in
    let a = acted seen j c.loop-self.notes c.loop-self.numbers in
    let inv = c.loop-self.invariant in
    let met = ap (λ (x : Joining _). x.router.client.has_met) (sym c.self.view_is) ∙ ap (λ x. x.has_met) (sym c.client.ensures) ∙ sym c.has_met.ensures ∙ c.loop-self-test.true in
    let change = c.in-Some.change in
    let later = drop 1 a.controller.waiting in
    let waits = first_is a.controller.waiting change (ap (λ (x : Joining _). slice_get x.router.routes.waiting 0) (sym c.self.view_is) ∙ ap (λ r. slice_get r.waiting 0) (sym c.routes.ensures) ∙ sym c.first.ensures ∙ c.in-Some.is) in
    let e = c.in_ok-begin_change.ensures.acted in
    let unmet = ap (λ (x : Joining _). x.router.client.has_met) (sym c.self-in-loop-self.view_is) ∙ ap (λ x. x.has_met) (sym c.client-in-loop-self.ensures) ∙ sym c.has_met-in-loop-self.ensures ∙ c.if-not-has_met.true in
    e ∙ stops a change later met waits (cannot (begins_change a change).controller change (ap (λ (x : Acted). x.controller.has_met) (sym e) ∙ unmet)) ∙ inv.acted

pub is_held_up-requires-clause-grants : goal.is_held_up-requires-clause-grants
is_held_up-requires-clause-grants g c =
    let seen = g.E.PortEngine.seen in
    let j = c.loop-self.self in
    let a = acted seen j c.loop-self.notes c.loop-self.numbers in
    let inv = c.loop-self.invariant in
    let met = ap (λ (x : Joining _). x.router.client.has_met) (sym c.self.view_is) ∙ ap (λ x. x.has_met) (sym c.client.ensures) ∙ sym c.has_met.ensures ∙ c.loop-self-test.true in
    let change = c.in-Some.change in
    let later = drop 1 a.controller.waiting in
    let waits = first_is a.controller.waiting change (ap (λ (x : Joining _). slice_get x.router.routes.waiting 0) (sym c.self.view_is) ∙ ap (λ r. slice_get r.waiting 0) (sym c.routes.ensures) ∙ sym c.first.ensures ∙ c.in-Some.is) in
    let still = ap (λ (x : Joining _). x.router.client.has_met) (sym c.self-in-loop-self.view_is) ∙ ap (λ x. x.has_met) (sym c.client-in-loop-self.ensures) ∙ sym c.has_met-in-loop-self.ensures ∙ c.if-not-has_met.false in
    grants_on a.controller (controller_of seen c.begin_change.new.self) (c.in_ok-begin_change.ensures.ports still) (first_grants a change later met waits inv.can)

pub returns-then-is_held_up-clause-acted : goal.returns-then-is_held_up-clause-acted
returns-then-is_held_up-clause-acted g c =
    let seen = g.E.PortEngine.seen in
    let j = c.loop-self.self in
    let a = acted seen j c.loop-self.notes c.loop-self.numbers in
    let inv = c.loop-self.invariant in
    let met = ap (λ (x : Joining _). x.router.client.has_met) (sym c.self.view_is) ∙ ap (λ x. x.has_met) (sym c.client.ensures) ∙ sym c.has_met.ensures ∙ c.loop-self-test.true in
    let change = c.in-Some.change in
    let later = drop 1 a.controller.waiting in
    let waits = first_is a.controller.waiting change (ap (λ (x : Joining _). slice_get x.router.routes.waiting 0) (sym c.self.view_is) ∙ ap (λ r. slice_get r.waiting 0) (sym c.routes.ensures) ∙ sym c.first.ensures ∙ c.in-Some.is) in
    let e = c.in_ok-begin_change.ensures.acted in
    let held_up = ap (λ (x : Acted). list_any (is_changed x.controller.table change) (joins_of x.controller)) (sym e) ∙ sym c.is_held_up.ensures ∙ c.if-is_held_up.true in
    e ∙ stops a change later met waits (held (begins_change a change).controller change held_up) ∙ inv.acted

pub take_change-requires : goal.take_change-requires
take_change-requires g c = λ none.
    let seen = g.E.PortEngine.seen in
    let j = c.loop-self.self in
    let a = acted seen j c.loop-self.notes c.loop-self.numbers in
    let inv = c.loop-self.invariant in
    let met = ap (λ (x : Joining _). x.router.client.has_met) (sym c.self.view_is) ∙ ap (λ x. x.has_met) (sym c.client.ensures) ∙ sym c.has_met.ensures ∙ c.loop-self-test.true in
    let change = c.in-Some.change in
    let later = drop 1 a.controller.waiting in
    let waits = first_is a.controller.waiting change (ap (λ (x : Joining _). slice_get x.router.routes.waiting 0) (sym c.self.view_is) ∙ ap (λ r. slice_get r.waiting 0) (sym c.routes.ensures) ∙ sym c.first.ensures ∙ c.in-Some.is) in
    let waits_in = ap (λ (x : Joining _). x.router.routes.waiting) c.self-in-loop-self.view_is ∙ c.in_ok-begin_change.ensures.waiting ∙ waits in
    cc (sym none ∙ waits_in)

pub loop-self-smaller : goal.loop-self-smaller
loop-self-smaller g c =
    let seen = g.E.PortEngine.seen in
    let j = c.loop-self.self in
    let a = acted seen j c.loop-self.notes c.loop-self.numbers in
    let inv = c.loop-self.invariant in
    let met = ap (λ (x : Joining _). x.router.client.has_met) (sym c.self.view_is) ∙ ap (λ x. x.has_met) (sym c.client.ensures) ∙ sym c.has_met.ensures ∙ c.loop-self-test.true in
    let change = c.in-Some.change in
    let later = drop 1 a.controller.waiting in
    let waits = first_is a.controller.waiting change (ap (λ (x : Joining _). slice_get x.router.routes.waiting 0) (sym c.self.view_is) ∙ ap (λ r. slice_get r.waiting 0) (sym c.routes.ensures) ∙ sym c.first.ensures ∙ c.in-Some.is) in
    let e = c.in_ok-begin_change.ensures.acted in
    let still = ap (λ (x : Joining _). x.router.client.has_met) (sym c.self-in-loop-self.view_is) ∙ ap (λ x. x.has_met) (sym c.client-in-loop-self.ensures) ∙ sym c.has_met-in-loop-self.ensures ∙ c.if-not-has_met.false in
    let v = begins_change a change in
    let here = ap (λ (x : Acted). x.controller.has_met) (sym e) ∙ still in
    let held_up = ap (λ (x : Acted). list_any (is_changed x.controller.table change) (joins_of x.controller)) (sym e) ∙ sym c.is_held_up.ensures ∙ c.if-is_held_up.false in
    let passes = may v.controller change here held_up in
    let is_in = c.self-in-loop-self.view_is in
    let waits_in = ap (λ (x : Joining _). x.router.routes.waiting) is_in ∙ c.in_ok-begin_change.ensures.waiting ∙ waits in
    let d_is = c.in_ok-take_change.ensures.acted c.begin_change.new.numbers change later waits_in
    ∙ ap (λ (x : Joining _). takes_change (acted seen x c.begin_change.new.notes c.begin_change.new.numbers) change later) is_in ∙ ap (λ (x : Acted). takes_change x change later) e in
    let now = ap length (ap (λ (x : Acted). x.controller.waiting) d_is) in
    let before = ap length waits in
    omega (arith, now, before)

pub loop-self-preserved : goal.loop-self-preserved
loop-self-preserved g c =
    let seen = g.E.PortEngine.seen in
    let j = c.loop-self.self in
    let a = acted seen j c.loop-self.notes c.loop-self.numbers in
    let inv = c.loop-self.invariant in
    let met = ap (λ (x : Joining _). x.router.client.has_met) (sym c.self.view_is) ∙ ap (λ x. x.has_met) (sym c.client.ensures) ∙ sym c.has_met.ensures ∙ c.loop-self-test.true in
    let change = c.in-Some.change in
    let later = drop 1 a.controller.waiting in
    let waits = first_is a.controller.waiting change (ap (λ (x : Joining _). slice_get x.router.routes.waiting 0) (sym c.self.view_is) ∙ ap (λ r. slice_get r.waiting 0) (sym c.routes.ensures) ∙ sym c.first.ensures ∙ c.in-Some.is) in
    let e = c.in_ok-begin_change.ensures.acted in
    let still = ap (λ (x : Joining _). x.router.client.has_met) (sym c.self-in-loop-self.view_is) ∙ ap (λ x. x.has_met) (sym c.client-in-loop-self.ensures) ∙ sym c.has_met-in-loop-self.ensures ∙ c.if-not-has_met.false in
    let v = begins_change a change in
    let here = ap (λ (x : Acted). x.controller.has_met) (sym e) ∙ still in
    let held_up = ap (λ (x : Acted). list_any (is_changed x.controller.table change) (joins_of x.controller)) (sym e) ∙ sym c.is_held_up.ensures ∙ c.if-is_held_up.false in
    let passes = may v.controller change here held_up in
    let is_in = c.self-in-loop-self.view_is in
    let waits_in = ap (λ (x : Joining _). x.router.routes.waiting) is_in ∙ c.in_ok-begin_change.ensures.waiting ∙ waits in
    let d_is = c.in_ok-take_change.ensures.acted c.begin_change.new.numbers change later waits_in
    ∙ ap (λ (x : Joining _). takes_change (acted seen x c.begin_change.new.notes c.begin_change.new.numbers) change later) is_in ∙ ap (λ (x : Acted). takes_change x change later) e in
    record {
      joined = ap (λ (x : Acted). joined_in x.controller) d_is ∙ sym (ap (λ (x : Acted). joined_in x.controller) e) ∙ c.in_ok-begin_change.ensures.joined ∙ ap (λ (x : Joining _). x.joins) (sym is_in);
      can = subst CanTakeChanges (sym d_is) (rest_can a change later met waits inv.can passes);
      acted = ap takes_changes d_is ∙ goes_on a change later met waits here passes ∙ inv.acted;
    }
