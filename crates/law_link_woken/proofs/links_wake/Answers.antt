-- the law that is called, put together

use Rattle.law_link_woken.proofs.Wake.{given_wakes_links}
use Rattle.law_link_woken.proofs.links_wake.Goals as goal

pub returns : goal.returns
returns c = record { wake = given_wakes_links c.runs_are_whole.ensures.whole }
