use Rattle.drill_script.proofs.Octets.{sent_packet-made}
use Rattle.drill_script.proofs.packet.write_packet.Goals as goal

pub returns : goal.returns
returns c =
    let same = sent_packet-made c.args.nodes c.args.number c.args.drawn c.write_headers.new.octets c.write_checksum.new.packet c.write_headers.ensures c.write_checksum.ensures in
    rw (← same) c.hex.ensures.ok
