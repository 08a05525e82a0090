-- what is read in frames, that events are ordinary, and that they make no pair, is asked of the laws that are called

use Rattle.law_joined_worlds.proofs.Premises.{runs_make_none}
use Rattle.law_joined_worlds.proofs.runs_make_no_pairs.Goals as goal

pub returns : goal.returns
returns c = λ nodes room fronts steps made. runs_make_none nodes fronts steps (c.worlds_are_running.ensures.events nodes room fronts steps) c.frames_are_read.ensures.marks made c.events_make_no_pairs.ensures
