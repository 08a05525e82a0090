use Rattle.std.proofs.Common.{◌+◌, length, refl, arith}
use Rattle.flow_encaps.proofs.GrowLemmas.{grown_none, grown_by}
use Rattle.flow_encaps.proofs.labelled.write_packet.Goals as goal

pub returns-clause-written : goal.returns-clause-written
returns-clause-written c =
    let out = c.args.out.now in
    let head = c.args.head.now in
    let rest = c.args.rest.now in
    let first = grown_by out _ _ head c.put_octets.new.octets 0 (length head) (grown_none out) (omega arith) c.put_octets.ensures in
    let second = grown_by out _ _ rest c.put_octets-2.new.octets (length head) (length head + length rest) first refl c.put_octets-2.ensures in
    second.is
