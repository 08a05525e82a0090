-- the law that is called, put together

use Rattle.law_live_ease.proofs.SettlingResting.{binding_networks_rest}
use Rattle.law_live_ease.proofs.SettlingHeard.{beats_are_heard}
use Rattle.law_live_ease.proofs.networks_settle.Goals as goal

pub returns : goal.returns
returns c = record { rest = binding_networks_rest; heard = beats_are_heard c.runs_are_whole.ensures.whole }
