-- the laws are proved over definitions alone

use Rattle.law_live_going.proofs.Ticks.{ticks_say_all}
use Rattle.law_live_going.proofs.Settling.{beats_settle}
use Rattle.law_live_going.proofs.beats_settle.Goals as goal

pub returns : goal.returns
returns c = record { ticks = ticks_say_all; beats = beats_settle }
