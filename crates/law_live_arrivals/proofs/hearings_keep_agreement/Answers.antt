-- the law is proved over definitions alone

use Rattle.law_live_arrivals.proofs.Arriving.{hearings_keep}
use Rattle.law_live_arrivals.proofs.hearings_keep_agreement.Goals as goal

pub returns : goal.returns
returns c = record { keep = hearings_keep }
