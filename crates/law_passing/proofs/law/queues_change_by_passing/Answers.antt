-- the law is proved over definitions alone

use Rattle.law_passing.proofs.Worlds.{change_by_passing, of_the_actor, sources_get_nothing}
use Rattle.law_passing.proofs.law.queues_change_by_passing.Goals as goal

pub returns : goal.returns
returns c = record { change = change_by_passing; actors = of_the_actor; sources = sources_get_nothing }
