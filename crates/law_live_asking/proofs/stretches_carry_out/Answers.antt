-- the law that is called, put together

use Rattle.law_live_asking.proofs.Stretches.{runs_carry_out}
use Rattle.law_live_asking.proofs.stretches_carry_out.Goals as goal

pub returns : goal.returns
returns c = record { runs = runs_carry_out c.runs_are_whole.ensures.whole }
