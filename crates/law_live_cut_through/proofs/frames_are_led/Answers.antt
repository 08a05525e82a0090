-- the law that is called, put together

use Rattle.law_live_cut_through.proofs.LedLeading as leading
use Rattle.law_live_cut_through.proofs.LedSent.{sent_frames_are_led}
use Rattle.law_live_cut_through.proofs.frames_are_led.Goals as goal

pub returns : goal.returns
returns c = record { frames = leading.frames_are_led; sent = sent_frames_are_led c.runs_are_whole.ensures.whole }
