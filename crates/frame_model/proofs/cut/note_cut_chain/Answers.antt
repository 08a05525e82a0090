use Rattle.frame_model.proofs.Cuts.{cuts_all, cuts_step}
use Rattle.frame_model.proofs.cut.note_cut_chain.Goals as goal

pub loop-place-preserved : goal.loop-place-preserved
loop-place-preserved c =
    cuts_step c.args.notes.now c.loop-place.notes _ c.args.cells.now c.loop-place.place _ c.loop-place-test.true c.loop-place.invariant c.in_ok-note_new_cut.ensures

pub returns : goal.returns
returns c = cuts_all c.args.notes.now c.loop-place.notes c.args.cells.now c.loop-place.place c.loop-place-test.false c.loop-place.invariant
