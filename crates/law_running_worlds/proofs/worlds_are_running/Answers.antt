-- what is read in frames is asked of the law that is called

use Rattle.law_running_worlds.proofs.Worlds.{events_true, events_ordinary}
use Rattle.law_running_worlds.proofs.worlds_are_running.Goals as goal

pub returns : goal.returns
returns c = record { chains = events_true; events = λ nodes room fronts steps. events_ordinary nodes room fronts steps c.frames_are_read.ensures.marks }
