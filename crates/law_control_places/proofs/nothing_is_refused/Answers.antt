-- the law is proved over definitions alone

use Rattle.law_control_places.proofs.RefusedKept.{nothing_refused}
use Rattle.law_control_places.proofs.nothing_is_refused.Goals as goal

pub returns : goal.returns
returns c = record { events = nothing_refused }
