use Rattle.std.proofs.Common.{take}
use Rattle.ipv4_forward.specs.Longest.{IsLongest}
use Rattle.ipv4_forward.proofs.table.longest.Given as goal

abbrev pub invariant-loop-route : goal.invariant-loop-route
invariant-loop-route l = IsLongest (take l.route-index l.routes) l.addr l.found
