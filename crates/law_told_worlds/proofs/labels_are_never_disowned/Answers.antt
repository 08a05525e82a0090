-- the laws that are called

use Rattle.law_told_worlds.proofs.Making.{events_disown_nothing, openings_disown_nothing}
use Rattle.law_told_worlds.proofs.labels_are_never_disowned.Goals as goal

pub returns : goal.returns
returns c =
    let run = c.nodes_are_steady.ensures in
    record {
      events = events_disown_nothing run.sites run.fronts run.steps c.frames_are_read.ensures.frames c.worlds_are_running.ensures.chains;
      opening = openings_disown_nothing;
    }
