-- the law is proved over definitions alone

use Rattle.law_live_peace.proofs.Carries.{carries_are_calm}
use Rattle.law_live_peace.proofs.carries_are_calm.Goals as goal

pub returns : goal.returns
returns c = record { carries = carries_are_calm }
