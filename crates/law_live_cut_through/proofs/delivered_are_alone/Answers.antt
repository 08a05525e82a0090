-- the law that is called, put together

use Rattle.law_live_cut_through.proofs.Alone as alone
use Rattle.law_live_cut_through.proofs.delivered_are_alone.Goals as goal

pub returns : goal.returns
returns c = record { alone = alone.delivered_are_alone c.runs_are_whole.ensures.whole }
