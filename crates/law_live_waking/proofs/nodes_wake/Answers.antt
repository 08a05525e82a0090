-- the laws are proved over definitions alone

use Rattle.law_live_waking.proofs.Beats.{beats_are_exchanges, nodes_wake}
use Rattle.law_live_waking.proofs.nodes_wake.Goals as goal

pub returns : goal.returns
returns c = record { beats = beats_are_exchanges; wake = nodes_wake }
