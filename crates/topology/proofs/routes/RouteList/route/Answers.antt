use Rattle.std.proofs.Common.{◌≡◌, ◌∙◌, sym, map, false, arith}
use Rattle.std.proofs.Math.ListN.{set, length-set}
use Rattle.ipv4_forward.specs.declared.table.Route.{Route}
use Rattle.ipv4_forward.specs.Best.{has_prefix, is_same}
use Rattle.ipv4_forward.specs.Change.{renewed}
use Rattle.ipv4_forward.proofs.Changing.{distinct-renewed, only_changed, only_of_prefix, prefix_absent, prefix_there}
use Rattle.topology.proofs.Routing.{can_change}
use Rattle.topology.proofs.routes.RouteList.route.Goals as goal

pub add-requires : goal.add-requires
add-requires c =
    let absent : has_prefix c.args.self.now c.args.prefix ≡ false = prefix_absent c.args.self.now c.args.prefix (sym c.place_of.ensures.place ∙ c.in_default.is) in
    can_change c.args.self.now c.args.prefix c.args.next absent c.requires

pub returns-in_default-clause-ok : goal.returns-in_default-clause-ok
returns-in_default-clause-ok c =
    let absent : has_prefix c.args.self.now c.args.prefix ≡ false = prefix_absent c.args.self.now c.args.prefix (sym c.place_of.ensures.place ∙ c.in_default.is) in
    rw absent c.add.ensures.ok

pub invariant_of-self : goal.invariant_of-self
invariant_of-self c =
    let xs = c.self.inside.list.items in
    let place = c.in-Some.place in
    let p = λ (route : Route). is_same route.prefix c.args.prefix in
    let only = only_of_prefix xs c.args.prefix place c.self.invariant.distinct (rw (← c.self.view_is) at (sym c.place_of.ensures.place ∙ c.in-Some.is)) in
    let same : map (renewed c.args.prefix c.args.next) xs ≡ set xs place (record c.index_mut.result.now { next = c.args.next }) =
    only_changed p (λ route. record route { next = c.args.next }) xs place c.index_mut.result.now only c.index_mut.ensures.value in
    record {
      distinct = rw same at (distinct-renewed c.args.prefix c.args.next xs c.self.invariant.distinct);
      room = omega (arith, c.self.invariant.room, length-set xs place (record c.index_mut.result.now { next = c.args.next }));
    }

pub returns-clause-ok : goal.returns-clause-ok
returns-clause-ok c =
    let xs = c.self.inside.list.items in
    let place = c.in-Some.place in
    let at = rw (← c.self.view_is) at (sym c.place_of.ensures.place ∙ c.in-Some.is) in
    let p = λ (route : Route). is_same route.prefix c.args.prefix in
    let only = only_of_prefix xs c.args.prefix place c.self.invariant.distinct at in
    let same : map (renewed c.args.prefix c.args.next) xs ≡ set xs place (record c.index_mut.result.now { next = c.args.next }) =
    only_changed p (λ route. record route { next = c.args.next }) xs place c.index_mut.result.now only c.index_mut.ensures.value in
    rw (← c.self.view_is, prefix_there xs c.args.prefix place at) (sym same)
