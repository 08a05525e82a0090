use Rattle.std.proofs.Common.{take, map}
use Rattle.ipv4_forward.specs.Change.{renewed}
use Rattle.ipv4_forward.specs.Longest.{IsLongest}
use Rattle.ipv4_forward.proofs.change.longest_of_renewed.Given as goal

abbrev pub invariant-loop-route : goal.invariant-loop-route
invariant-loop-route l = IsLongest (map (renewed l.new.prefix l.new.next) (take l.route-index l.routes)) l.addr l.found
