-- the law is proved over definitions alone

use Rattle.law_live_sending.proofs.Sending.{ticks_send_what_ports_say}
use Rattle.law_live_sending.proofs.ticks_send_what_ports_say.Goals as goal

pub returns : goal.returns
returns c = record { send = ticks_send_what_ports_say }
