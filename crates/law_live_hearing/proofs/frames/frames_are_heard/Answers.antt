-- the laws are proved over definitions alone

use Rattle.law_live_hearing.proofs.Waiting.{frames_wait}
use Rattle.law_live_hearing.proofs.Heard.{switches_hear, controllers_hear, neighbours_hear}
use Rattle.law_live_hearing.proofs.frames.frames_are_heard.Goals as goal

pub returns : goal.returns
returns c = record { waiting = frames_wait; switches = switches_hear; controllers = controllers_hear; neighbours = neighbours_hear }
