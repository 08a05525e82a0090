-- the law is proved over definitions alone

use Rattle.law_live_mirrored_ticks.proofs.Ticking.{ticks_keep}
use Rattle.law_live_mirrored_ticks.proofs.ticks_keep_mirrors.Goals as goal

pub returns : goal.returns
returns c = ticks_keep
