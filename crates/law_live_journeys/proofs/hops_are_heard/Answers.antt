-- the law that is called, put together

use Rattle.law_live_journeys.proofs.Hops.{hops_are_heard}
use Rattle.law_live_journeys.proofs.hops_are_heard.Goals as goal

pub returns : goal.returns
returns c = record { hops = hops_are_heard c.runs_are_whole.ensures.whole }
