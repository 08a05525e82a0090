-- the law that is called, put together

use Rattle.law_live_brought.proofs.Stretches.{stretches_bind}
use Rattle.law_live_brought.proofs.stretches_bind.Goals as goal

pub returns : goal.returns
returns c = record { bind = stretches_bind c.runs_are_whole.ensures.whole }
