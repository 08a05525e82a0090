-- the laws are proved over definitions alone

use Rattle.law_live_unsaid.proofs.Unanswered.{frames_say_none, forwarded_say_none, others_are_unanswered, packets_are_held, peace_is_unanswered, quiet_sends_nothing, sound_sends_by_labels}
use Rattle.law_live_unsaid.proofs.unanswered_frames_say_none.Goals as goal

pub returns : goal.returns
returns c = record {
  frames = frames_say_none;
  forwarded = forwarded_say_none;
  others = others_are_unanswered;
  packets = packets_are_held;
  peace = peace_is_unanswered;
  quiet = quiet_sends_nothing;
  labels = sound_sends_by_labels;
}
