-- the laws are proved over definitions alone

use Rattle.law_live_ways.proofs.Links.{met_stand_none, none_comes_still, reads_keep_ways, carries_keep_ways}
use Rattle.law_live_ways.proofs.links_keep_ways.Goals as goal

pub returns : goal.returns
returns c = record { desks = met_stand_none; coming = none_comes_still; reading = reads_keep_ways; carries = carries_keep_ways }
