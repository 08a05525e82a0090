use Rattle.law_input_steps.proofs.Ticks.{ticks_leads}
use Rattle.law_input_steps.proofs.ticks_are_moves.Goals as goal

pub returns : goal.returns
returns c = ticks_leads
