-- the law that is called, put together

use Rattle.law_live_journeys.proofs.Flows.{flows_go_on}
use Rattle.law_live_journeys.proofs.Counting.{packets_are_counted}
use Rattle.law_live_journeys.proofs.packets_are_counted.Goals as goal

pub returns : goal.returns
returns c = record { flows = flows_go_on; counted = packets_are_counted c.runs_are_whole.ensures.whole }
