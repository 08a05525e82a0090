use Rattle.ipv4_packet.proofs.HeaderLemmas.{IsPacket-with_ttl}
use Rattle.ipv4_packet.proofs.write.set_ttl.Goals as goal

pub returns-clause-packet : goal.returns-clause-packet
returns-clause-packet c = rw c.write_checksum.ensures (IsPacket-with_ttl c.args.packet.now c.args.ttl c.requires)
