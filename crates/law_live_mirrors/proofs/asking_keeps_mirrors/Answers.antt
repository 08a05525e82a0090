-- the laws are proved over definitions alone

use Rattle.law_live_mirrors.proofs.Nodes.{plain_work_keeps_mirrors}
use Rattle.law_live_mirrors.proofs.Counting.{packets_keep_mirrors}
use Rattle.law_live_mirrors.proofs.Redirects.{grants_keep_mirrors, refreshes_keep_mirrors}
use Rattle.law_live_mirrors.proofs.Joining.{tries_keep_mirrors}
use Rattle.law_live_mirrors.proofs.asking_keeps_mirrors.Goals as goal

pub returns : goal.returns
returns c = record { works = plain_work_keeps_mirrors; packets = packets_keep_mirrors; grants = grants_keep_mirrors; refreshes = refreshes_keep_mirrors; joins = tries_keep_mirrors }
