-- the law is proved over definitions alone

use Rattle.law_live_frames.proofs.Coming.{frames_are_whole}
use Rattle.law_live_frames.proofs.frames_are_whole.Goals as goal

pub returns : goal.returns
returns c = record { whole = frames_are_whole }
