use Rattle.std.proofs.Common.{◌≡◌, ◌∙◌, sym, map, true, false, refl, arith}
use Rattle.std.proofs.Math.ListN.{set, length-set}
use Rattle.ipv4_forward.specs.declared.table.Route.{Route}
use Rattle.ipv4_forward.specs.Best.{has_prefix, is_same}
use Rattle.ipv4_forward.specs.Change.{renewed}
use Rattle.ipv4_forward.proofs.Changing.{distinct-renewed, full_told, only_changed, only_of_prefix, prefix_absent, prefix_there}
use Rattle.ipv4_forward.proofs.table.Table.route.Goals as goal

pub returns-in-Err-clause-fault : goal.returns-in-Err-clause-fault
returns-in-Err-clause-fault c =
    let absent : has_prefix c.args.self.now c.args.prefix ≡ false =
    rw (← c.self.view_is, ← c.as_slice.ensures.value) (prefix_absent c.as_slice.result.now c.args.prefix (sym c.place_of.ensures ∙ c.in_default.is)) in
    full_told c.args.self.now c.args.prefix c.args.next c.in-Err._full absent c.in-Err.ensures.fault

pub invariant_of-self : goal.invariant_of-self
invariant_of-self c =
    let xs = c.self.inside.routes.items in
    let p = λ (route : Route). is_same route.prefix c.args.prefix in
    let only = only_of_prefix xs c.args.prefix c.in-Some.place c.self.invariant.distinct (rw (← c.as_slice.ensures.value) (sym c.place_of.ensures ∙ c.in-Some.is)) in
    let same : map (renewed c.args.prefix c.args.next) xs ≡ set xs c.in-Some.place (record c.index_mut.result.now { next = c.args.next }) =
    only_changed p (λ route. record route { next = c.args.next }) xs c.in-Some.place c.index_mut.result.now only c.index_mut.ensures.value in
    record {
      room = c.self.invariant.room;
      within = omega (arith, c.self.invariant.within, length-set xs c.in-Some.place (record c.index_mut.result.now { next = c.args.next }));
      distinct = rw same at (distinct-renewed c.args.prefix c.args.next xs c.self.invariant.distinct);
    }

pub returns-clause-ok : goal.returns-clause-ok
returns-clause-ok c =
    let xs = c.self.inside.routes.items in
    let p = λ (route : Route). is_same route.prefix c.args.prefix in
    let only = only_of_prefix xs c.args.prefix c.in-Some.place c.self.invariant.distinct (rw (← c.as_slice.ensures.value) (sym c.place_of.ensures ∙ c.in-Some.is)) in
    let same : map (renewed c.args.prefix c.args.next) xs ≡ set xs c.in-Some.place (record c.index_mut.result.now { next = c.args.next }) =
    only_changed p (λ route. record route { next = c.args.next }) xs c.in-Some.place c.index_mut.result.now only c.index_mut.ensures.value in
    let there : has_prefix xs c.args.prefix ≡ true = prefix_there xs c.args.prefix c.in-Some.place (rw (← c.as_slice.ensures.value) (sym c.place_of.ensures ∙ c.in-Some.is)) in
    rw (← c.self.view_is, there) (sym same)

pub returns-clause-fault : goal.returns-clause-fault
returns-clause-fault c =
    let there : has_prefix c.self.inside.routes.items c.args.prefix ≡ true =
    prefix_there c.self.inside.routes.items c.args.prefix c.in-Some.place (rw (← c.as_slice.ensures.value) (sym c.place_of.ensures ∙ c.in-Some.is)) in
    rw (← c.self.view_is, there) refl
