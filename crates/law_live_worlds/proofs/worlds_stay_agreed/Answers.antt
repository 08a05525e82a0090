-- the laws are proved over definitions alone

use Rattle.law_live_worlds.proofs.Staying.{agreement_goes_both_ways, ends_agree_in_rest, like_worlds_agree}
use Rattle.law_live_worlds.proofs.Ticking.{ticks_of_all_keep_agreement}
use Rattle.law_live_worlds.proofs.worlds_stay_agreed.Goals as goal

pub returns : goal.returns
returns c = record { both = agreement_goes_both_ways; rest = ends_agree_in_rest; ticks = ticks_of_all_keep_agreement; alike = like_worlds_agree }
