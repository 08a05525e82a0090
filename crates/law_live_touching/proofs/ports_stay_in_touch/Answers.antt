-- the laws are proved over definitions alone

use Rattle.law_live_touching.proofs.Frames.{packets_keep_touch, messages_keep_touch}
use Rattle.law_live_touching.proofs.Branches.{label_branches_keep_touch, grant_branches_keep_touch, label_trees_keep_touch}
use Rattle.law_live_touching.proofs.ports_stay_in_touch.Goals as goal

pub returns : goal.returns
returns c = record {
  packets = packets_keep_touch;
  messages = messages_keep_touch;
  labels = label_branches_keep_touch;
  grants = grant_branches_keep_touch;
  trees = label_trees_keep_touch;
}
