-- the laws are proved over definitions alone

use Rattle.law_live_asking.proofs.Frames.{plain_frames_ask_none, label_frames_ask_none, acks_work_plainly, refreshes_work_plainly}
use Rattle.law_live_asking.proofs.Counting.{unheard_frames_work_plainly}
use Rattle.law_live_asking.proofs.Peace.{messages_in_peace_may_come}
use Rattle.law_live_asking.proofs.Told.{plain_messages_ask_none}
use Rattle.law_live_asking.proofs.Asks.{frames_ask_few}
use Rattle.law_live_asking.proofs.frames_ask_few.Goals as goal

pub returns : goal.returns
returns c = record {
  told = plain_messages_ask_none;
  plain = plain_frames_ask_none;
  labels = label_frames_ask_none;
  unheard = unheard_frames_work_plainly;
  acks = acks_work_plainly;
  refreshes = refreshes_work_plainly;
  peace = messages_in_peace_may_come;
  few = frames_ask_few;
}
