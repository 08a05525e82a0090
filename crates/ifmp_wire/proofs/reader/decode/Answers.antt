use Rattle.ifmp_wire.proofs.AcceptLemmas.{found_or_fault}
use Rattle.ifmp_wire.proofs.reader.decode.Goals as goal

pub returns-clause-ok : goal.returns-clause-ok
returns-clause-ok c = found_or_fault c.args.octets.now c.decode_told.result c.decode_told.ensures.found c.decode_told.ensures.fault
