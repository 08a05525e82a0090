use Rattle.law_label_worlds.proofs.Whole.{labels_are_kept, labels_begin}
use Rattle.law_label_worlds.proofs.events_are_moves.Goals as goal

pub returns : goal.returns
returns c = record { events = labels_are_kept; opening = labels_begin }
