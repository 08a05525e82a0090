-- the laws are proved over definitions alone

use Rattle.law_live_mirrored_worlds.proofs.Ticks.{ticks_ask, ticks_mirror, ticks_put_what_they_ask}
use Rattle.law_live_mirrored_worlds.proofs.ticks_keep_nodes_mirrored.Goals as goal

pub returns : goal.returns
returns c = record { put = ticks_put_what_they_ask; asks = ticks_ask; mirrored = ticks_mirror }
