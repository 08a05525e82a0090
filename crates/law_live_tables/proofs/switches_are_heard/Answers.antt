-- the law, put together

use Rattle.law_live_tables.proofs.Heard.{switches_are_heard}
use Rattle.law_live_tables.proofs.switches_are_heard.Goals as goal

pub returns : goal.returns
returns c = record { heard = switches_are_heard }
