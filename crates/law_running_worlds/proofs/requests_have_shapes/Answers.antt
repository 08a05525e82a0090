use Rattle.law_running_worlds.proofs.Laws.{requests_keep, resets_keep}
use Rattle.law_running_worlds.proofs.requests_have_shapes.Goals as goal

pub returns : goal.returns
returns c = record { asked = requests_keep; resets = resets_keep }
