use Rattle.std.proofs.Common.{◌≡◌, ◌++◌, take, flat_map}
use Rattle.show_text.specs.Node.{route_line}
use Rattle.tell_show.proofs.routes.write_routes.Given as goal

abbrev pub invariant-loop-route : goal.invariant-loop-route
invariant-loop-route l = l.out ≡ l.fn.out ++ flat_map (route_line l.names l.node) (take l.route-index l.table)
