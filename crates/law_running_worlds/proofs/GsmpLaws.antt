-- the laws, where the old cells are those of two lists

use Rattle.std.specs.Prelude.{Contains}
use Rattle.law_input_events.proofs.law_input_premises.Steady.{steady_whole}
use Rattle.law_running_worlds.specs.Calls.{TicksTellUp, RestartsTellUp, TicksAskShaped}
use Rattle.law_running_worlds.proofs.Events.{ticks_go}
use Rattle.law_running_worlds.proofs.Switches.{tick_fine, restarted_fine}

pub ticks_tell : TicksTellUp
ticks_tell setups old chain began marks a h = tick_fine setups (Contains old) (Contains chain) began marks a h

pub restarts_tell : RestartsTellUp
restarts_tell setups old chain began marks a h = restarted_fine setups (Contains old) (Contains chain) began marks a h

pub ticks_ask : TicksAskShaped
ticks_ask old gathered began marks m a c h = ticks_go c.setups c.links (Contains old) (Contains gathered) began marks m a (steady_whole a c) h
