-- the law is proved over definitions alone

use Rattle.law_link_orders.proofs.Orders.{unlost_frames_come_in_order, unlost_stretches_come_in_order}
use Rattle.law_link_orders.proofs.unlost_frames_come_in_order.Goals as goal

pub returns : goal.returns
returns c = record { order = unlost_frames_come_in_order; stretches = unlost_stretches_come_in_order }
