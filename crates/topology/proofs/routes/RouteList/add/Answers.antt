use Rattle.std.proofs.Common.{[], ◌∷◌, arith}
use Rattle.std.proofs.lemmas.List.{length-append}
use Rattle.ipv4_forward.specs.declared.table.Route.{Route}
use Rattle.ipv4_forward.proofs.Passing.{distinct_push}
use Rattle.topology.proofs.Routing.{are_few, is_new}
use Rattle.topology.proofs.routes.RouteList.add.Goals as goal

pub invariant_of-self-2 : goal.invariant_of-self-2
invariant_of-self-2 c =
    let xs = c.self.inside.list.items in
    let route : Route = record { prefix = c.args.prefix; next = c.args.next } in
    let free = rw (← c.self.view_is) at c.requires in
    rw c.in_ok-push.ensures.items
    record {
      distinct = distinct_push xs route c.self.invariant.distinct (is_new xs c.args.prefix free);
      room = omega (arith, length-append xs (route ∷ []), are_few xs c.args.prefix free);
    }
