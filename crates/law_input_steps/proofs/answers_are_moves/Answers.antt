use Rattle.law_input_steps.proofs.Greeted.{greeted_line}
use Rattle.law_input_steps.proofs.Held.{is_held}
use Rattle.law_input_steps.proofs.Taken.{unknown_line, failed_line, done_line, ports_line}
use Rattle.law_input_steps.proofs.answers_are_moves.Goals as goal

pub returns : goal.returns
returns c = record { greeted = greeted_line; held = is_held; unknown = unknown_line; failed = failed_line; done = done_line; ports = ports_line }
