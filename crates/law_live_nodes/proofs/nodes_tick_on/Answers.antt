-- the law is proved over definitions alone

use Rattle.law_live_nodes.proofs.Ports.{nodes_tick_on}
use Rattle.law_live_nodes.proofs.nodes_tick_on.Goals as goal

pub returns : goal.returns
returns c = record { left = nodes_tick_on }
