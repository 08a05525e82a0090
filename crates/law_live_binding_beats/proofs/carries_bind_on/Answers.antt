-- the laws are proved over definitions alone

use Rattle.law_live_binding_beats.proofs.Going.{carries_bind_on, still_ends_agree}
use Rattle.law_live_binding_beats.proofs.carries_bind_on.Goals as goal

pub returns : goal.returns
returns c = record { on = carries_bind_on; rest = still_ends_agree }
