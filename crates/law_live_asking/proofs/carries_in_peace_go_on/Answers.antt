-- the law that is called, put together

use Rattle.law_live_asking.proofs.Going.{carries_in_peace_go_on}
use Rattle.law_live_asking.proofs.Through.{carries_in_peace_carry_out}
use Rattle.law_live_asking.proofs.carries_in_peace_go_on.Goals as goal

pub returns : goal.returns
returns c = record { one = carries_in_peace_go_on; all = carries_in_peace_carry_out c.runs_are_whole.ensures.whole }
