-- the laws are proved over definitions alone

use Rattle.law_live_rests.proofs.Going.{stretches_come_to_rest, beats_come_to_rest}
use Rattle.law_live_rests.proofs.links_rest_behind_beats.Goals as goal

pub returns : goal.returns
returns c = record { stretches = stretches_come_to_rest; beats = beats_come_to_rest }
