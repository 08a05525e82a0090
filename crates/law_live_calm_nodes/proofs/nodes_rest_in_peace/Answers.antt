-- the laws that are called, put together

use Rattle.law_live_calm_nodes.proofs.Nodes.{nodes_hear_their_switches, nodes_rest_in_peace}
use Rattle.law_live_calm_nodes.proofs.Resting.{nodes_at_rest_are_calm}
use Rattle.law_live_calm_nodes.proofs.nodes_rest_in_peace.Goals as goal

pub returns : goal.returns
returns c = (let whole = c.runs_are_whole.ensures.whole in record { rest = nodes_at_rest_are_calm; hear = nodes_hear_their_switches whole; peace = nodes_rest_in_peace whole })
