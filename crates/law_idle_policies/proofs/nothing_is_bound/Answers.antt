-- the law is proved over definitions alone

use Rattle.law_idle_policies.proofs.Runs.{nothing_is_bound}
use Rattle.law_idle_policies.proofs.nothing_is_bound.Goals as goal

pub returns : goal.returns
returns c = record { bound = nothing_is_bound }
