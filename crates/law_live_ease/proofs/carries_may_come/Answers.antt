-- the law is proved over definitions alone

use Rattle.law_live_ease.proofs.ComingMayCome.{carries_may_come}
use Rattle.law_live_ease.proofs.carries_may_come.Goals as goal

pub returns : goal.returns
returns c = record { may_come = carries_may_come }
