use Rattle.std.proofs.Common.{List, drop, arith}
use Rattle.link_model.specs.declared.frames.Frame.{Frame}
use Rattle.tell_journal.specs.Journal.{frame_value}
use Rattle.tell_journal.proofs.Lists.{Item, item_at, value_put}
use Rattle.tell_journal.proofs.event.write_frames.Goals as goal

pub loop-place-preserved : goal.loop-place-preserved
loop-place-preserved c =
    let frames : List Frame = drop c.args.before.now.made c.args.notes.now.frames in
    let found : Item frames c.loop-place.place = item_at frames c.loop-place.place (omega (arith, c.loop-place-test.true, c.made-place-end.ensures)) in
    value_put frame_value frames c.loop-place.place found.item c.args.out.now c.loop-place.out c.write_comma.new.out c.write_made_at.new.out
    found.is c.loop-place.invariant c.in_ok-write_comma.ensures (c.in_ok-write_made_at.ensures found.item found.is)
