-- the law is proved over definitions alone

use Rattle.law_live_elsewhere.proofs.Elsewhere.{carries_elsewhere_keep_agreement}
use Rattle.law_live_elsewhere.proofs.others_keep_agreement.Goals as goal

pub returns : goal.returns
returns c = record { keep = carries_elsewhere_keep_agreement }
