-- the laws that are called, put together

use Rattle.law_live_begun.proofs.LinksPeace.{links_go_on}
use Rattle.law_live_begun.proofs.Runs.{runs_begin_by}
use Rattle.law_live_begun.proofs.runs_begin.Goals as goal

pub returns : goal.returns
returns c = record {
  begin = λ given cleared. runs_begin_by (c.networks_go_on.ensures.networks given) (c.nodes_begin_in_peace.ensures.peace given) cleared.nodes
      (links_go_on (c.networks_go_on.ensures.networks given) cleared.nodes) cleared.lead
      c.runs_keep_links_met.ensures.lately c.runs_keep_links_met.ensures.up;
}
