use Rattle.law_input_steps.proofs.Switching.{switch_ticks_leads}
use Rattle.law_input_steps.proofs.SwitchCells.{switch_restarts_leads}
use Rattle.law_input_steps.proofs.switches_are_moves.Goals as goal

pub returns : goal.returns
returns c = record { ticks = switch_ticks_leads; restarts = switch_restarts_leads }
