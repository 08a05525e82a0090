-- the law is proved over definitions alone

use Rattle.law_live_joins.proofs.Joining.{labels_are_joined}
use Rattle.law_live_joins.proofs.labels_are_joined.Goals as goal

pub returns : goal.returns
returns c = record { joined = labels_are_joined }
