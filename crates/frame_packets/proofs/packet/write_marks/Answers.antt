use Rattle.frame_packets.proofs.Marks.{marks_all, marks_step}
use Rattle.frame_packets.proofs.packet.write_marks.Goals as goal

pub loop-place-preserved : goal.loop-place-preserved
loop-place-preserved c =
    marks_step c.args.out.now c.loop-place.out _ c.args.cells.now c.loop-place.place _ c.loop-place-test.true c.loop-place.invariant c.in_ok-write_new_mark.ensures

pub returns : goal.returns
returns c = marks_all c.args.out.now c.loop-place.out c.args.cells.now c.loop-place.place c.loop-place-test.false c.loop-place.invariant
