-- the law is proved over definitions alone

use Rattle.law_link_nodes.proofs.Beats.{nodes_stay_met}
use Rattle.law_link_nodes.proofs.nodes_stay_met.Goals as goal

pub returns : goal.returns
returns c = record { stay = nodes_stay_met }
