-- the laws that are called, put together

use Rattle.law_live_ease.proofs.Agreeing.{runs_agree}
use Rattle.law_live_ease.proofs.runs_agree.Goals as goal

pub returns : goal.returns
returns c = record {
  agree = runs_agree c.runs_are_whole.ensures.whole c.messages_are_written.ensures.written c.networks_stay_at_ease.ensures.beats c.networks_stay_at_ease.ensures.ends
      c.unlabelled_networks_are_at_ease.ensures.ease;
}
