-- the law is proved over definitions alone

use Rattle.law_live_orders.proofs.Slots.{unlost_find_slots}
use Rattle.law_live_orders.proofs.unlost_find_slots.Goals as goal

pub returns : goal.returns
returns c = record { find = unlost_find_slots }
