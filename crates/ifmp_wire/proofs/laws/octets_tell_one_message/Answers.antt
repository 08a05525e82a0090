use Rattle.ifmp_wire.proofs.AcceptLemmas.{Tells-injective}
use Rattle.ifmp_wire.proofs.laws.octets_tell_one_message.Goals as goal

pub returns : goal.returns
returns c = Tells-injective
