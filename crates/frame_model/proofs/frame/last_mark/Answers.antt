use Rattle.frame_model.proofs.Frames.{last_mark_at}
use Rattle.frame_model.proofs.frame.last_mark.Goals as goal

pub returns : goal.returns
returns c = last_mark_at c.args.cells.now _ c.requires
