-- the laws are proved over definitions alone

use Rattle.law_live_control.proofs.Sides.{sides_stay_met}
use Rattle.law_live_control.proofs.Reading.{calm_is_read}
use Rattle.law_live_control.proofs.Switches.{switches_hear_calmly, switches_tick_calmly}
use Rattle.law_live_control.proofs.Controllers.{controllers_hear_calmly, frames_come_calmly, controllers_tick_calmly}
use Rattle.law_live_control.proofs.control_stays_met.Goals as goal

pub returns : goal.returns
returns c = record {
  sides = sides_stay_met;
  reading = calm_is_read;
  switches = switches_hear_calmly;
  switches_tick = switches_tick_calmly;
  controllers = controllers_hear_calmly;
  frames = frames_come_calmly;
  controllers_tick = controllers_tick_calmly;
}
