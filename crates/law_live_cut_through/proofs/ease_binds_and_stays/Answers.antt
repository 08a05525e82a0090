-- the laws that are called, put together

use Rattle.law_live_cut_through.proofs.EaseBinding.{ease_binds}
use Rattle.law_live_cut_through.proofs.EaseStays.{stretches_keep_ease}
use Rattle.law_live_cut_through.proofs.ease_binds_and_stays.Goals as goal

pub returns : goal.returns
returns c = record {
  binds = ease_binds;
  stays = stretches_keep_ease c.runs_are_whole.ensures.whole c.networks_bind_on.ensures.stretches c.networks_settle.ensures.rest;
}
