use Rattle.std.proofs.Common.{◌≡◌, ◌++◌, ◌-◌, flat_map}
use Rattle.std.specs.Prelude.{drop}
use Rattle.world_model.specs.Topology.{Topology}
use Rattle.world.specs.Network.{no_notes, world_of}
use Rattle.world.specs.Running.{Runs}
use Rattle.tell_passing.specs.Lengths.{behind_at, link_ports}
use Rattle.tell_passing.proofs.lengths.put_ports.Given as goal

abbrev pub invariant-loop-number : goal.invariant-loop-number
invariant-loop-number g l = (topology : Topology) → Runs g.C.NodeController.seen topology l.world
    → l.out.items ++ flat_map (behind_at topology (world_of g.C.NodeController.seen l.world no_notes) l.node l.left) (drop (l.number - 1) link_ports)
    ≡ l.fn.out.items ++ flat_map (behind_at topology (world_of g.C.NodeController.seen l.world no_notes) l.node l.left) link_ports
