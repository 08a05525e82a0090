use Rattle.law_running_worlds.proofs.GsmpLaws.{ticks_ask, ticks_tell, restarts_tell}
use Rattle.law_running_worlds.proofs.calls_are_fine.Goals as goal

pub returns : goal.returns
returns c = record { asks = ticks_ask; tells = ticks_tell; tells_anew = restarts_tell }
