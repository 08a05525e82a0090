-- the law is proved over definitions alone

use Rattle.law_live_going.proofs.Going.{carries_go}
use Rattle.law_live_going.proofs.carries_go.Goals as goal

pub returns : goal.returns
returns c = record { go = carries_go }
