-- the laws are proved over definitions alone

use Rattle.law_live_mirrors.proofs.Successes.{offers_keep_mirrors, starts_keep_mirrors, joins_keep_mirrors}
use Rattle.law_live_mirrors.proofs.Alone.{desks_stand_alone}
use Rattle.law_live_mirrors.proofs.answers_keep_mirrors.Goals as goal

pub returns : goal.returns
returns c = record { labels = offers_keep_mirrors; grants = starts_keep_mirrors; joins = joins_keep_mirrors; alone = desks_stand_alone }
