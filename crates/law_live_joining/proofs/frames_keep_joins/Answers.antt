-- the law is proved over definitions alone

use Rattle.law_live_joining.proofs.Frames as frames
use Rattle.law_live_joining.proofs.frames_keep_joins.Goals as goal

pub returns : goal.returns
returns c = record { kept = frames.frames_keep_joins }
