-- the law is proved over definitions alone

use Rattle.law_controller.proofs.Laws.{always_moves, always_few}
use Rattle.law_needed_requests.proofs.Few.{needs_few}
use Rattle.law_needed_requests.proofs.needed_requests_are_few.Goals as goal

pub returns : goal.returns
returns c = record { few = needs_few always_moves always_few }
