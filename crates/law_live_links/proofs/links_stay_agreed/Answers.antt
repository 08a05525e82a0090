-- the laws are proved over definitions alone

use Rattle.law_live_links.proofs.Resting.{ends_agree_at_rest, ends_are_at_peace}
use Rattle.law_live_links.proofs.Ticking.{ticks_keep_agreement}
use Rattle.law_live_links.proofs.Hearing.{hearing_keeps_agreement}
use Rattle.law_live_links.proofs.Beats.{links_stay_at_rest}
use Rattle.law_live_links.proofs.links_stay_agreed.Goals as goal

pub returns : goal.returns
returns c = record { rest = ends_agree_at_rest; peace = ends_are_at_peace; ticks = ticks_keep_agreement; hearing = hearing_keeps_agreement; beats = links_stay_at_rest }
