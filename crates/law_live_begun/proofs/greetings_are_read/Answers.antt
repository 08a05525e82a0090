-- the law, as it is

use Rattle.law_live_begun.proofs.Codec.{greetings_are_read}
use Rattle.law_live_begun.proofs.greetings_are_read.Goals as goal

pub returns : goal.returns
returns c = record { read = greetings_are_read }
