use Rattle.std.proofs.Common.{◌≡◌, ◌++◌}
use Rattle.world.specs.Network.{no_notes, world_of}
use Rattle.tell_passing.specs.Lengths.{behind}
use Rattle.tell_passing.proofs.lengths.put_queue.Given as goal

abbrev pub invariant-loop-index : goal.invariant-loop-index
invariant-loop-index g l = l.out.items ++ behind (world_of g.C.NodeController.seen l.world no_notes) l.index l.place ≡ l.fn.out.items ++ behind (world_of g.C.NodeController.seen l.world no_notes) l.left l.place
