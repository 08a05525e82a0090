-- the laws that are called, put together

use Rattle.law_live_ease.proofs.NodesGoing as going
use Rattle.law_live_ease.proofs.nodes_bind_on.Goals as goal

pub returns : goal.returns
returns c = record { nodes = going.nodes_bind_on c.runs_are_whole.ensures.whole c.carries_may_come.ensures.may_come c.carries_keep_ties.ensures.ties }
