-- the law is proved over definitions alone

use Rattle.law_live_unsaid.proofs.Carries.{carries_say_none}
use Rattle.law_live_unsaid.proofs.unanswered_carries_say_none.Goals as goal

pub returns : goal.returns
returns c = record { carries = carries_say_none }
