use Rattle.law_input_steps.proofs.Resets.{node_resets_leads, node_restarts_leads}
use Rattle.law_input_steps.proofs.Greeted.{steps_tick_leads}
use Rattle.law_input_steps.proofs.resets_are_moves.Goals as goal

pub returns : goal.returns
returns c = record { resets = node_resets_leads; restarts = node_restarts_leads; ticks = steps_tick_leads }
