-- the law is proved over definitions alone

use Rattle.law_live_orders.proofs.Hearing.{ports_hear_messages}
use Rattle.law_live_orders.proofs.ports_hear_messages.Goals as goal

pub returns : goal.returns
returns c = record { hear = ports_hear_messages }
