-- the law is proved over definitions alone

use Rattle.law_true_losses.proofs.Runs.{losses_are_true}
use Rattle.law_true_losses.proofs.losses_are_true.Goals as goal

pub returns : goal.returns
returns c = record { losses = losses_are_true }
