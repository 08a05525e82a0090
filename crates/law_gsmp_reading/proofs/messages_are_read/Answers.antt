use Rattle.law_gsmp_reading.proofs.Read.{message_is_read}
use Rattle.law_gsmp_reading.proofs.messages_are_read.Goals as goal

pub returns : goal.returns
returns c = message_is_read
