-- the laws that are called, put together

use Rattle.law_live_begun.proofs.Peace.{nodes_begin_in_peace, nodes_stay_up}
use Rattle.law_live_begun.proofs.nodes_begin_in_peace.Goals as goal

pub returns : goal.returns
returns c = record {
  peace = λ given. nodes_begin_in_peace c.runs_are_whole.ensures.whole c.woken_nodes_stay_met.ensures.woken c.greetings_are_read.ensures.read (c.networks_go_on.ensures.networks given);
  up = λ given. nodes_stay_up c.runs_are_whole.ensures.whole c.woken_nodes_stay_met.ensures.woken c.greetings_are_read.ensures.read (c.networks_go_on.ensures.networks given);
}
