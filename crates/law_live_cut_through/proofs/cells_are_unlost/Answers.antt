-- the law is proved over definitions alone

use Rattle.law_live_cut_through.proofs.LedUnlost as unlost
use Rattle.law_live_cut_through.proofs.cells_are_unlost.Goals as goal

pub returns : goal.returns
returns c = record { unlost = unlost.cells_are_unlost }
