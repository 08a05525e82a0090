-- the laws are proved over definitions alone

use Rattle.law_live_desks.proofs.Events.{carries_keep_desks, ticks_keep_desks, switch_ticks_keep_desks, injects_keep_desks, ticks_send_again, resting_desks_are_empty}
use Rattle.law_live_desks.proofs.Runs.{runs_are_read}
use Rattle.law_live_desks.proofs.desks_stay_on_their_way.Goals as goal

pub returns : goal.returns
returns c = record {
  carries = carries_keep_desks;
  ticks = ticks_keep_desks;
  switch_ticks = switch_ticks_keep_desks;
  injects = injects_keep_desks;
  again = ticks_send_again;
  rests = resting_desks_are_empty;
  reading = runs_are_read;
}
