use Rattle.law_controller_lifts.proofs.Ready.{hears_ready, ticks_ready, used_ready, done_ready}
use Rattle.law_controller_lifts.proofs.controllers_stay_ready.Goals as goal

pub returns : goal.returns
returns c = record {
  hearing = λ setups a port source message small range fits f h. (hears_ready setups a port source message small range fits).ready f h;
  tick = λ setups a port f h. (ticks_ready setups a port).ready f h;
  in_use = λ setups a port number f h. (used_ready setups a port number).ready f h;
  answers = λ setups a port request f h. (done_ready setups a port request).ready f h;
}
