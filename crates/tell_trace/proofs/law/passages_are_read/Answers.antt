use Rattle.tell_trace.proofs.Read.{passages_read}
use Rattle.tell_trace.proofs.law.passages_are_read.Goals as goal

pub returns : goal.returns
returns c = passages_read
