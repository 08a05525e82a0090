use Rattle.flow_classifier.proofs.Remembered.{counts_law}
use Rattle.flow_classifier.proofs.laws.counts_are_of_the_window.Goals as goal

pub returns : goal.returns
returns c = counts_law
