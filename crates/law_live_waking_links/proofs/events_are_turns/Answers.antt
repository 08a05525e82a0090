-- the laws are proved over definitions alone

use Rattle.law_live_waking_links.proofs.Events.{ticks_are_turns, carries_are_turns, packets_are_turns}
use Rattle.law_live_waking_links.proofs.events_are_turns.Goals as goal

pub returns : goal.returns
returns c = record { ticks = ticks_are_turns; carries = carries_are_turns; packets = packets_are_turns }
