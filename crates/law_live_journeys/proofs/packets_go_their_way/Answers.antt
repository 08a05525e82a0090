-- the law that is called, put together

use Rattle.law_live_journeys.proofs.Tables.{tables_stay}
use Rattle.law_live_journeys.proofs.Ungranted.{ungranted_ways, without_grants}
use Rattle.law_live_journeys.proofs.Journeys.{packets_go_their_way}
use Rattle.law_live_journeys.proofs.packets_go_their_way.Goals as goal

pub returns : goal.returns
returns c = record { tables = tables_stay; ungranted = ungranted_ways; no_grants = without_grants; way = packets_go_their_way c.runs_are_whole.ensures.whole }
