use Rattle.tell_capture.proofs.Blocks.{blocks_step}
use Rattle.tell_capture.proofs.interface.opening_blocks.Goals as goal

pub loop-index-preserved : goal.loop-index-preserved
loop-index-preserved g c =
    blocks_step c.args.names.now c.args.world.now.round.items c.loop-index.index c.place.result _ c.loop-index.blocks.items c.write_interface.new.out.items c.place.ensures
    c.loop-index.invariant c.in_ok-write_interface.ensures
