-- the law that is called, put together

use Rattle.law_link_nodes.proofs.Runs.{runs_stay_met, woken_nodes_stay_met}
use Rattle.law_link_nodes.proofs.woken_nodes_stay_met.Goals as goal

pub returns : goal.returns
returns c = record { runs = runs_stay_met c.runs_are_whole.ensures.whole; woken = woken_nodes_stay_met c.runs_are_whole.ensures.whole }
