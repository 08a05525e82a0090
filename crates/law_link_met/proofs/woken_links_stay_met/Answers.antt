-- the law that is called, put together

use Rattle.law_link_met.proofs.Lately.{given_keeps_links_met, given_keeps_links_up}
use Rattle.law_link_met.proofs.woken_links_stay_met.Goals as goal

pub returns : goal.returns
returns c = record {
  lately = given_keeps_links_met c.runs_are_whole.ensures.whole;
  up = given_keeps_links_up c.runs_are_whole.ensures.whole;
}
