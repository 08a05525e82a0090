-- the law that is called, put together

use Rattle.law_live_ease.proofs.TicksBinds.{ticks_bind}
use Rattle.law_live_ease.proofs.ticks_bind.Goals as goal

pub returns : goal.returns
returns c = record { ticks = ticks_bind c.runs_are_whole.ensures.whole }
