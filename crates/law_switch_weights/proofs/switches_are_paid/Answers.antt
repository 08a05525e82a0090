-- the law is proved over definitions alone

use Rattle.law_switch_weights.proofs.Paid.{cells_are_paid}
use Rattle.law_switch_weights.proofs.switches_are_paid.Goals as goal

pub returns : goal.returns
returns c = record { cells = cells_are_paid }
