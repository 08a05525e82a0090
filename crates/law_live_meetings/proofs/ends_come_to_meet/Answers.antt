-- the laws are proved over definitions alone

use Rattle.std.proofs.Common.{refl}
use Rattle.law_live_meetings.proofs.Names.{neighbours_meet, switches_meet, strange_neighbours_meet, strange_switches_meet, hellos_are_heard}
use Rattle.law_live_meetings.proofs.ends_come_to_meet.Goals as goal

pub returns : goal.returns
returns c = record {
  neighbours = neighbours_meet;
  switches = switches_meet;
  strange_neighbours = strange_neighbours_meet;
  strange_switches = strange_switches_meet;
  greetings = λ side message. refl;
  hellos = hellos_are_heard;
}
