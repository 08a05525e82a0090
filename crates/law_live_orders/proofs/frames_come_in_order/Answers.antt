-- the laws are proved over definitions alone

use Rattle.law_live_orders.proofs.Coming.{frames_come_in_order, first_frames_are_heard, frames_sent_come_last, all_else_leaves_them, stretches_come_in_order, first_messages_are_heard, messages_sent_come_last, all_else_leaves_messages}
use Rattle.law_live_orders.proofs.Saying.{sayings_stay}
use Rattle.law_live_orders.proofs.frames_come_in_order.Goals as goal

pub returns : goal.returns
returns c = record {
  order = frames_come_in_order;
  first = first_frames_are_heard;
  sent = frames_sent_come_last;
  others = all_else_leaves_them;
  stretches = stretches_come_in_order;
  sayings = sayings_stay;
  first_message = first_messages_are_heard;
  messages_sent = messages_sent_come_last;
  other_messages = all_else_leaves_messages;
}
