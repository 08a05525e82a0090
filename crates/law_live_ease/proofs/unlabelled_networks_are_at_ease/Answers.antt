-- the law that is called, put together

use Rattle.law_live_ease.proofs.Unlabelled.{unlabelled_networks_are_at_ease}
use Rattle.law_live_ease.proofs.unlabelled_networks_are_at_ease.Goals as goal

pub returns : goal.returns
returns c = record { ease = unlabelled_networks_are_at_ease c.runs_are_whole.ensures.whole }
