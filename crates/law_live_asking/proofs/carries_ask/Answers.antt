-- the laws are proved over definitions alone

use Rattle.law_live_asking.proofs.Calm.{calm_links_may_come}
use Rattle.law_live_asking.proofs.Carries.{carries_ask_some}
use Rattle.law_live_asking.proofs.Runs.{known_switches_are_asked, carries_ask}
use Rattle.law_live_asking.proofs.carries_ask.Goals as goal

pub returns : goal.returns
returns c = record { some = carries_ask_some; calm = calm_links_may_come; known = known_switches_are_asked; carries = carries_ask }
