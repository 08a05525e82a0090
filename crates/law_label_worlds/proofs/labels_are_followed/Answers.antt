-- what is so of every run and what controllers do is asked of the laws that are called

use Rattle.law_label_worlds.proofs.Old.{old_by}
use Rattle.law_label_worlds.proofs.labels_are_followed.Goals as goal

pub returns-clause-events : goal.returns-clause-events
returns-clause-events c = λ pairs settled.
    let sites = c.nodes_are_steady.ensures.sites in
    let room = c.nodes_are_steady.ensures.room in
    c.events_are_moves.ensures.events (old_by pairs)
    (c.controllers_lead_labels.ensures.cells sites room settled)
    (c.controllers_lead_labels.ensures.ticks sites room pairs)

pub returns-clause-opening : goal.returns-clause-opening
returns-clause-opening c = c.events_are_moves.ensures.opening
