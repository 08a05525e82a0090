-- the law is proved over definitions alone

use Rattle.law_live_ease.proofs.Written.{messages_are_written}
use Rattle.law_live_ease.proofs.messages_are_written.Goals as goal

pub returns : goal.returns
returns c = record { written = messages_are_written }
