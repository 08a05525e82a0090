-- the law that is called, put together

use Rattle.law_live_rested.proofs.Rested.{still_nodes_wake}
use Rattle.law_live_rested.proofs.resting_nodes_wake.Goals as goal

pub returns : goal.returns
returns c = record { wake = still_nodes_wake c.runs_wake.ensures.wake }
