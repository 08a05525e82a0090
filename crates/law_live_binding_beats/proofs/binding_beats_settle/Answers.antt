-- the laws are proved over definitions alone

use Rattle.law_live_binding_beats.proofs.Sending.{sendings_bind_on}
use Rattle.law_live_binding_beats.proofs.Settling.{binding_beats_settle}
use Rattle.law_live_binding_beats.proofs.binding_beats_settle.Goals as goal

pub returns : goal.returns
returns c = record { sending = sendings_bind_on; beats = binding_beats_settle }
