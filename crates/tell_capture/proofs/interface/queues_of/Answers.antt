use Rattle.frame_packets.specs.Taps.{queue_of}
use Rattle.tell_capture.proofs.Blocks.{map_step}
use Rattle.tell_capture.proofs.interface.queues_of.Goals as goal

pub loop-index-preserved : goal.loop-index-preserved
loop-index-preserved g c =
    map_step queue_of c.args.world.now.round.items c.loop-index.index c.place.result c.loop-index.queues.items c.push.new.self.items c.of.result c.place.ensures
    c.loop-index.invariant c.in_ok-push.ensures.items c.of.ensures
