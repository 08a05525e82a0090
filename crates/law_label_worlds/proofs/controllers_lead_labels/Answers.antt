use Rattle.law_label_worlds.proofs.Worlds.{cells_arrive, ticks_lead}
use Rattle.law_label_worlds.proofs.controllers_lead_labels.Goals as goal

pub returns : goal.returns
returns c = record { cells = cells_arrive; ticks = ticks_lead }
