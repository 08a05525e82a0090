use Rattle.law_input_steps.proofs.Done.{done_leads, changes_leads, comes_line, ends_leads}
use Rattle.law_input_steps.proofs.successes_are_moves.Goals as goal

pub returns : goal.returns
returns c = record { done = done_leads; changes = changes_leads; comes = comes_line; ends = ends_leads }
