-- the law is proved over definitions alone

use Rattle.law_live_beats.proofs.Ticks.{ticks_reach_all, ticks_come_first}
use Rattle.law_live_beats.proofs.ticks_reach_all.Goals as goal

pub returns : goal.returns
returns c = record { reach = ticks_reach_all; first = ticks_come_first }
