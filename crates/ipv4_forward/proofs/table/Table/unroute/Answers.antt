use Rattle.std.proofs.Common.{◌≡◌, ◌∙◌, sym, not, filter, refl, true, false, arith}
use Rattle.std.specs.List.{remove}
use Rattle.ipv4_forward.specs.declared.table.Route.{Route}
use Rattle.ipv4_forward.specs.Best.{has_prefix, is_same}
use Rattle.ipv4_forward.proofs.Changing.{distinct-filter, only_of_prefix, only_taken, prefix_absent, prefix_there}
use Rattle.ipv4_forward.proofs.table.Table.unroute.Goals as goal

pub returns-in_default-clause-fault : goal.returns-in_default-clause-fault
returns-in_default-clause-fault c =
    let absent : has_prefix c.args.self.now c.args.prefix ≡ false =
    rw (← c.self.view_is, ← c.as_slice.ensures.value) (prefix_absent c.as_slice.result.now c.args.prefix (sym c.place_of.ensures ∙ c.in_default.is)) in
    rw absent refl

pub invariant_of-self : goal.invariant_of-self
invariant_of-self c =
    let xs = c.self.inside.routes.items in
    let p = λ (route : Route). is_same route.prefix c.args.prefix in
    let only = only_of_prefix xs c.args.prefix c.in-Some.place c.self.invariant.distinct (rw (← c.as_slice.ensures.value) (sym c.place_of.ensures ∙ c.in-Some.is)) in
    let same : filter (λ route. not (p route)) xs ≡ remove xs c.in-Some.place = only_taken p xs c.in-Some.place only in
    record {
      room = omega (arith, c.remove.ensures.capacity, c.self.invariant.room);
      within = omega (arith, c.remove.ensures.len, c.self.invariant.within);
      distinct = rw (c.remove.ensures.items, ← same) (distinct-filter (λ route. not (p route)) xs c.self.invariant.distinct);
    }

pub returns-clause-ok : goal.returns-clause-ok
returns-clause-ok c =
    let xs = c.self.inside.routes.items in
    let p = λ (route : Route). is_same route.prefix c.args.prefix in
    let only = only_of_prefix xs c.args.prefix c.in-Some.place c.self.invariant.distinct (rw (← c.as_slice.ensures.value) (sym c.place_of.ensures ∙ c.in-Some.is)) in
    rw (← c.self.view_is) (c.remove.ensures.items ∙ sym (only_taken p xs c.in-Some.place only))

pub returns-clause-fault : goal.returns-clause-fault
returns-clause-fault c =
    let there : has_prefix c.self.inside.routes.items c.args.prefix ≡ true =
    prefix_there c.self.inside.routes.items c.args.prefix c.in-Some.place (rw (← c.as_slice.ensures.value) (sym c.place_of.ensures ∙ c.in-Some.is)) in
    rw (← c.self.view_is, there) refl
