use Rattle.std.proofs.Common.{◌≡◌, ℕ, ◌+◌, ◌-◌, List, length, drop, refl, ap}
use borrow.Rule.Slice.PartMut.{put_mid}
use Rattle.ipv4_packet.specs.Packet.{ifmp_header, ifmp_packet_of}
use Rattle.ipv4_packet.proofs.MessageLemmas.{packet-written, take-front, length-ifmp_packet_of, IsPacket-ifmp_packet_of}
use Rattle.ipv4_packet.proofs.write.ifmp_packet.Goals as goal

pub returns-clause-written : goal.returns-clause-written
returns-clause-written c =
    packet-written (ifmp_header c.args.source (length c.args.message.now)) c.args.message.now c.args.out.now
    c.write_ifmp_header.new.out _ c.write_checksum.new.packet (length c.args.message.now) refl refl
    c.write_ifmp_header.ensures
    (ap (λ (message : List ℕ). put_mid 20 (20 + length c.args.message.now - 20) c.write_ifmp_header.new.out message) c.copy_from_slice.ensures.after)
    c.write_checksum.ensures

pub returns-clause-packet : goal.returns-clause-packet
returns-clause-packet c =
    let packet = ifmp_packet_of c.args.source c.args.message.now in
    let long : length packet ≡ 20 + length c.args.message.now = length-ifmp_packet_of c.args.source c.args.message.now in
    rw (returns-clause-written c, take-front packet (drop (20 + length c.args.message.now) c.args.out.now) (20 + length c.args.message.now) long)
    (IsPacket-ifmp_packet_of c.args.source c.args.message.now c.requires.message)
