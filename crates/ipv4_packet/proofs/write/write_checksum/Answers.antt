use Rattle.ipv4_packet.specs.Packet.{canonical_checksum}
use Rattle.ipv4_packet.proofs.HeaderLemmas.{with_checksum-with_checksum}
use Rattle.ipv4_packet.proofs.write.write_checksum.Goals as goal

pub returns : goal.returns
returns c =
    let twice = with_checksum-with_checksum c.args.packet.now 0 (canonical_checksum c.args.packet.now) c.requires in
    cc
