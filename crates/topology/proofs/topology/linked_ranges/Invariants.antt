use Rattle.std.proofs.Common.{◌≡◌, take, map, filter, is_some}
use Rattle.world_model.specs.Topology.{peer_of, range_among}
use Rattle.topology.proofs.topology.linked_ranges.Given as goal

-- the ranges of the linked ports so far
abbrev pub invariant-loop-port : goal.invariant-loop-port
invariant-loop-port l = l.ranges.items ≡ map (range_among l.node.ranges) (filter (λ port. is_some (peer_of l.plan l.number port)) (take l.port-index l.ports))
