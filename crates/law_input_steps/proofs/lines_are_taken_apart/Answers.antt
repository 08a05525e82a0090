use Rattle.law_input_steps.proofs.Reach.{stands_of, shows_of, follows_of}
use Rattle.law_input_steps.proofs.lines_are_taken_apart.Goals as goal

pub returns : goal.returns
returns c = record { apart = stands_of; together = shows_of; follows = follows_of }
