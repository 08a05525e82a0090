use Rattle.law_controller_lifts.proofs.Lifts.{readable}
use Rattle.law_controller_lifts.proofs.said_can_be_read.Goals as goal

pub returns : goal.returns
returns c = λ address message small range fits. readable address message small range fits
