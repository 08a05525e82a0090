-- the laws, put together

use Rattle.law_live_rested.proofs.Failing.{nothing_fails, fails_in_estab}
use Rattle.law_live_rested.proofs.requests_fail_in_estab.Goals as goal

pub returns : goal.returns
returns c = record { nothing = nothing_fails; closed = fails_in_estab }
