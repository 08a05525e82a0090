use Rattle.std.proofs.Common.{◌≡◌, ℕ, ◌<◌, length, slice_index_or}
use Rattle.net_types.specs.declared.node.Place.TheVariants.{Out}
use Rattle.world_model.specs.Places.{queue_at}
use Rattle.world.specs.Network.{no_notes, world_of}
use Rattle.tell_passing.proofs.lengths.waiting.Given as goal

abbrev pub invariant-loop-port : goal.invariant-loop-port
invariant-loop-port g l = record {
  nine : length l.left ≡ 9;
  counted : (port : ℕ) → port < l.port → slice_index_or l.left port 0 ≡ length (queue_at (world_of g.C.NodeController.seen l.world no_notes) (Out l.node (record { 0 = port })));
}
