-- the law is proved over definitions alone

use Rattle.law_pairs.proofs.Events.{events_make_none}
use Rattle.law_pairs.proofs.events_make_no_pairs.Goals as goal

pub returns : goal.returns
returns c = events_make_none
