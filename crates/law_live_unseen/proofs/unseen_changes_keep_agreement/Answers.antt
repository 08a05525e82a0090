-- the laws are proved over definitions alone

use Rattle.law_live_unseen.proofs.Alike.{like_ports_agree}
use Rattle.law_live_unseen.proofs.Rules.{grants_are_lent_unseen, labels_are_joined_unseen, labels_are_parted_unseen, grants_are_started_unseen, labels_are_used_unseen}
use Rattle.law_live_unseen.proofs.unseen_changes_keep_agreement.Goals as goal

pub returns : goal.returns
returns c = record {
  alike = like_ports_agree;
  lent = grants_are_lent_unseen;
  joined = labels_are_joined_unseen;
  parted = labels_are_parted_unseen;
  started = grants_are_started_unseen;
  used = labels_are_used_unseen;
}
