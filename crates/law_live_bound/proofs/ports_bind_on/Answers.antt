-- the laws are proved over definitions alone

use Rattle.law_live_bound.proofs.Frames.{packets_keep_binding, messages_keep_binding}
use Rattle.law_live_bound.proofs.Successes.{label_branches_keep_binding, grant_branches_keep_binding}
use Rattle.law_live_bound.proofs.Standing.{label_branches_keep_nodes_up, grant_branches_keep_nodes_up}
use Rattle.law_live_bound.proofs.ports_bind_on.Goals as goal

pub returns : goal.returns
returns c = record {
  packets = packets_keep_binding;
  messages = messages_keep_binding;
  labels = label_branches_keep_binding;
  grants = grant_branches_keep_binding;
  labels_up = label_branches_keep_nodes_up;
  grants_up = grant_branches_keep_nodes_up;
}
