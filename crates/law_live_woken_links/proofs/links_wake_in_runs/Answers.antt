-- the law that is called, put together

use Rattle.law_live_woken_links.proofs.Woken.{links_wake_in_runs}
use Rattle.law_live_woken_links.proofs.links_wake_in_runs.Goals as goal

pub returns : goal.returns
returns c = record { wake = links_wake_in_runs c.runs_are_whole.ensures.whole }
