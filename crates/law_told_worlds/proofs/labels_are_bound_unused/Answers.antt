-- the laws that are called

use Rattle.law_told_worlds.proofs.Wired.{binds_are_wired, bound_are_unused}
use Rattle.law_told_worlds.proofs.labels_are_bound_unused.Goals as goal

pub returns : goal.returns
returns c = record {
  wired = λ nodes fronts steps. binds_are_wired nodes fronts steps c.frames_are_read.ensures.frames c.worlds_are_running.ensures.chains;
  unused = λ nodes fronts steps. bound_are_unused nodes fronts steps c.frames_are_read.ensures.frames c.worlds_are_running.ensures.chains c.labels_are_unused.ensures.spare;
}
