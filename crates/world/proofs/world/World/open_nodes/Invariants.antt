use Rattle.std.proofs.Common.{◌≡◌, length}
use Rattle.world.proofs.Opens.{IsAt}
use Rattle.world.proofs.world.World.open_nodes.Given as goal

abbrev pub invariant-loop-place : goal.invariant-loop-place
invariant-loop-place g l = record {
  at : IsAt g.C.NodeController.seen (g.C.NodeController.meaning l.policy) l.topology l._place l.self;
  nodes : l.nodes ≡ length l.topology.nodes;
}
