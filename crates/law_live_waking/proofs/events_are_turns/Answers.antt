-- the laws are proved over definitions alone

use Rattle.law_live_waking.proofs.Events.{ticks_are_turns, carries_are_turns, packets_are_none}
use Rattle.law_live_waking.proofs.Runs.{runs_go}
use Rattle.law_live_waking.proofs.events_are_turns.Goals as goal

pub returns : goal.returns
returns c = record { runs = runs_go; ticks = ticks_are_turns; carries = carries_are_turns; packets = packets_are_none }
