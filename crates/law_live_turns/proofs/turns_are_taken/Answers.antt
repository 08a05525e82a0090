-- the laws are proved over definitions alone

use Rattle.std.proofs.Common.{refl}
use Rattle.law_live_turns.proofs.Controllers.{controllers_hear}
use Rattle.law_live_turns.proofs.Ports.{ports_tick, ports_hear}
use Rattle.law_live_turns.proofs.Switches.{switches_tick, switches_hear}
use Rattle.law_live_turns.proofs.turns_are_taken.Goals as goal

pub returns : goal.returns
returns c = record {
  ports_tick = ports_tick;
  ports_hear = ports_hear;
  ports_begin = λ setup w. refl;
  switches_tick = switches_tick;
  switches_hear = switches_hear;
  controllers_hear = controllers_hear;
}
