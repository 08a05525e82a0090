use Rattle.std.proofs.Common.{take, filter, not}
use Rattle.ipv4_forward.specs.Best.{is_same}
use Rattle.ipv4_forward.specs.Longest.{IsLongest}
use Rattle.ipv4_forward.proofs.change.longest_of_others.Given as goal

abbrev pub invariant-loop-route : goal.invariant-loop-route
invariant-loop-route l = IsLongest (filter (λ route. not (is_same route.prefix l.prefix)) (take l.route-index l.routes)) l.addr l.found
