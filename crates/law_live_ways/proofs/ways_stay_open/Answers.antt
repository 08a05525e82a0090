-- the laws are proved over definitions alone

use Rattle.law_live_ways.proofs.Ways.{ways_stay_open, stretches_keep_ways, ticks_keep_ways}
use Rattle.law_live_ways.proofs.ways_stay_open.Goals as goal

pub returns : goal.returns
returns c = record { events = ways_stay_open; stretches = stretches_keep_ways; ticks = ticks_keep_ways }
