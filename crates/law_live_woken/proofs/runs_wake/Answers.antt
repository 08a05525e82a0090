-- the law that is called, put together

use Rattle.law_live_woken.proofs.Woken.{runs_wake}
use Rattle.law_live_woken.proofs.runs_wake.Goals as goal

pub returns : goal.returns
returns c = record { wake = runs_wake c.runs_are_whole.ensures.whole }
