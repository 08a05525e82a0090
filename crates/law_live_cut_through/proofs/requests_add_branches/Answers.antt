-- the laws that are called, put together

use Rattle.law_live_cut_through.proofs.RequestsBranches.{requests_add_branches}
use Rattle.law_live_cut_through.proofs.requests_add_branches.Goals as goal

pub returns : goal.returns
returns c = record { add = requests_add_branches c.runs_are_whole.ensures.whole c.networks_bind_on.ensures.stretches }
