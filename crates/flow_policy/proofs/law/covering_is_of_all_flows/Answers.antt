use Rattle.flow_policy.proofs.Covering.{covers_all, all_covers}
use Rattle.flow_policy.proofs.Covered.{least_cover}
use Rattle.flow_policy.proofs.Said.{text_said}
use Rattle.flow_policy.proofs.law.covering_is_of_all_flows.Goals as goal

pub returns : goal.returns
returns c = record {
  covers = λ one other is other_is. (covers_all one other other_is, all_covers one other other_is);
  covered = least_cover;
  read = text_said;
}
