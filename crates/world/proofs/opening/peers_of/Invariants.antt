use Rattle.std.proofs.Common.{◌≡◌, ℕ, ◌≤◌, ◌<◌, length, slice_index_or, None}
use Rattle.world_model.specs.Topology.{peer_of}
use Rattle.world.proofs.opening.peers_of.Given as goal

abbrev pub invariant-loop-port : goal.invariant-loop-port
invariant-loop-port l = record {
  nine : length l.peers ≡ 9;
  kept : (port : ℕ) → 1 ≤ port → port < l.port → slice_index_or l.peers port None ≡ peer_of l.topology l.node (record { 0 = port });
  none : (port : ℕ) → l.port ≤ port → slice_index_or l.peers port None ≡ None;
}
