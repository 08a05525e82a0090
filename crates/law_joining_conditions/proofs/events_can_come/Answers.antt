-- the laws are proved over definitions alone

use Rattle.law_joining_conditions.proofs.Events.{ticks_can_go_by, node_can_restart, changes_can_come, messages_can_be_told, ports_can_hear, ports_can_count}
use Rattle.law_joining_conditions.proofs.Frames.{frames_can_be_taken}
use Rattle.law_joining_conditions.proofs.events_can_come.Goals as goal

pub returns : goal.returns
returns c = record {
  ticks = ticks_can_go_by;
  restarts = node_can_restart;
  changes = changes_can_come;
  messages = messages_can_be_told;
  hears = ports_can_hear;
  counts = ports_can_count;
  frames = frames_can_be_taken;
}
