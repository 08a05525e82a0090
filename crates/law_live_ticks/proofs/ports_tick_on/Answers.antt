-- the law is proved over definitions alone

use Rattle.law_live_ticks.proofs.Ticking.{ports_tick_on}
use Rattle.law_live_ticks.proofs.ports_tick_on.Goals as goal

pub returns : goal.returns
returns c = record { left = ports_tick_on }
