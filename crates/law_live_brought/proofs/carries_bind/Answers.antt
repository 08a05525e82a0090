-- the law is proved over definitions alone

use Rattle.law_live_brought.proofs.Carries.{carries_bind}
use Rattle.law_live_brought.proofs.carries_bind.Goals as goal

pub returns : goal.returns
returns c = record { carries = carries_bind }
