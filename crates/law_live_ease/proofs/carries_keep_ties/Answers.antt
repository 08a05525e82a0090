-- the law is proved over definitions alone

use Rattle.law_live_ease.proofs.ComingKeepTies.{carries_keep_ties}
use Rattle.law_live_ease.proofs.carries_keep_ties.Goals as goal

pub returns : goal.returns
returns c = record { ties = carries_keep_ties }
