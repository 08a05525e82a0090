use Rattle.std.proofs.Common.{◌≡◌, ◌-◌, length}
use Rattle.link_model.specs.Notes.{Journal}
use Rattle.world.specs.Network.{world_of}
use Rattle.world.specs.Running.{Runs}
use Rattle.world.proofs.Starts.{ArePassed}
use Rattle.world.proofs.world.World.next_waiting.Given as goal

abbrev pub ghost-first_holding : goal.ghost-first_holding
ghost-first_holding g a = g.topology

abbrev pub invariant-loop-node : goal.invariant-loop-node
invariant-loop-node g l = record {
  same : (notes : Journal) → world_of g.C.NodeController.seen l.self notes ≡ world_of g.C.NodeController.seen l.fn.self notes;
  runs : Runs g.C.NodeController.seen g.topology l.self;
  size : l.nodes ≡ length l.self.sites.items;
  passed : ArePassed g.C.NodeController.seen l.self l.from l.node;
}

abbrev pub decreases-loop-node : goal.decreases-loop-node
decreases-loop-node g l = l.nodes - l.node
