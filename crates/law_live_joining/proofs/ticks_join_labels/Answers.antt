-- the laws are proved over definitions alone

use Rattle.law_live_joining.proofs.Ready.{ready_can_be_joined}
use Rattle.law_live_joining.proofs.Ticking.{ticks_join, ticks_keep_joins}
use Rattle.law_live_joining.proofs.ticks_join_labels.Goals as goal

pub returns : goal.returns
returns c = record { ready = ready_can_be_joined; joined = ticks_join; kept = ticks_keep_joins }
