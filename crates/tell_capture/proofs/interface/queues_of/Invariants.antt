use Rattle.std.proofs.Common.{◌≡◌, map, take}
use Rattle.frame_packets.specs.Taps.{queue_of}
use Rattle.tell_capture.proofs.interface.queues_of.Given as goal

abbrev pub invariant-loop-index : goal.invariant-loop-index
invariant-loop-index g l = l.queues.items ≡ map queue_of (take l.index l.world.round.items)
