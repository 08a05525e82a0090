-- the laws that are called, put together

use Rattle.law_link_parties.proofs.runs_keep_links_met.Goals as goal

pub returns : goal.returns
returns c = record {
  lately = c.woken_links_stay_met.ensures.lately c.links_are_given.ensures.given;
  up = c.woken_links_stay_met.ensures.up c.links_are_given.ensures.given;
}
