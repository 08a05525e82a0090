-- the laws, put together

use Rattle.law_live_rested.proofs.Worlds.{runs_have_such_sides}
use Rattle.law_live_rested.proofs.Rested.{still_nodes_rest}
use Rattle.law_live_rested.proofs.nodes_rest.Goals as goal

pub returns : goal.returns
returns c = record { sides = runs_have_such_sides; rest = still_nodes_rest }
