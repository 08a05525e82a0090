-- the laws, put together

use Rattle.law_link_met.proofs.law_link_numbers.Ticking.{ticks_keep_parties}
use Rattle.law_link_met.proofs.law_link_numbers.Holding.{frames_keep_parties}
use Rattle.law_link_met.proofs.law_link_woken.Keeping.{ticks_keep_theirs}
use Rattle.law_link_parties.proofs.Carries.{carries_keep_theirs}
use Rattle.law_link_parties.proofs.ports_keep_theirs.Goals as goal

pub returns : goal.returns
returns c = record { ticks = ticks_keep_theirs ticks_keep_parties; carries = carries_keep_theirs frames_keep_parties }
