use Rattle.std.proofs.Common.{◌≡◌, take}
use Rattle.topology.proofs.routes.table_of.Given as goal

-- the routes so far
abbrev pub invariant-loop-route : goal.invariant-loop-route
invariant-loop-route l = l.table ≡ take l.route-index l.routes
