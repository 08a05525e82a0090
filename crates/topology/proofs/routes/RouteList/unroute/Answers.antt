use Rattle.std.proofs.Common.{◌≡◌, ◌∙◌, sym, not, filter, false, arith}
use Rattle.std.specs.List.{remove}
use Rattle.ipv4_forward.specs.declared.table.Route.{Route}
use Rattle.ipv4_forward.specs.Best.{has_prefix, is_same}
use Rattle.ipv4_forward.proofs.Changing.{distinct-filter, only_of_prefix, only_taken, prefix_absent}
use Rattle.topology.proofs.routes.RouteList.unroute.Goals as goal

pub returns-in_default : goal.returns-in_default
returns-in_default c =
    let absent : has_prefix c.args.self.now c.args.prefix ≡ false = prefix_absent c.args.self.now c.args.prefix (sym c.place_of.ensures.place ∙ c.in_default.is) in
    absurd (cc (rw absent at c.requires))

pub invariant_of-self : goal.invariant_of-self
invariant_of-self c =
    let xs = c.self.inside.list.items in
    let place = c.in-Some.place in
    let p = λ (route : Route). is_same route.prefix c.args.prefix in
    let only = only_of_prefix xs c.args.prefix place c.self.invariant.distinct (rw (← c.self.view_is) at (sym c.place_of.ensures.place ∙ c.in-Some.is)) in
    let same : filter (λ route. not (p route)) xs ≡ remove xs place = only_taken p xs place only in
    record {
      distinct = rw (c.remove.ensures.items, ← same) (distinct-filter (λ route. not (p route)) xs c.self.invariant.distinct);
      room = omega (arith, c.self.invariant.room, c.remove.ensures.len);
    }

pub returns : goal.returns
returns c =
    let xs = c.self.inside.list.items in
    let place = c.in-Some.place in
    let p = λ (route : Route). is_same route.prefix c.args.prefix in
    let only = only_of_prefix xs c.args.prefix place c.self.invariant.distinct (rw (← c.self.view_is) at (sym c.place_of.ensures.place ∙ c.in-Some.is)) in
    rw (← c.self.view_is) (c.remove.ensures.items ∙ sym (only_taken p xs place only))
