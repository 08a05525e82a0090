-- the law, as it is

use Rattle.law_live_begun.proofs.Switches.{switches_go_on}
use Rattle.law_live_begun.proofs.switches_go_on.Goals as goal

pub returns : goal.returns
returns c = record { switches = switches_go_on }
