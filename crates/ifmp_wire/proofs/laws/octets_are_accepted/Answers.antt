use Rattle.ifmp_wire.proofs.AcceptLemmas.{first_fault-octets_of}
use Rattle.ifmp_wire.proofs.laws.octets_are_accepted.Goals as goal

pub returns : goal.returns
returns c = first_fault-octets_of
