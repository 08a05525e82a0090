-- the laws that are called, put together

use Rattle.law_live_begun.proofs.WorldsRuns.{networks_go_on}
use Rattle.law_live_begun.proofs.networks_go_on.Goals as goal

pub returns : goal.returns
returns c = record { networks = λ given. networks_go_on c.runs_are_whole.ensures.whole c.greetings_are_read.ensures.read given.controllers given.ready c.switches_go_on.ensures.switches }
