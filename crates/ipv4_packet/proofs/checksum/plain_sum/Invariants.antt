use Rattle.std.proofs.Common.{◌≡◌, ◌*◌, ◌≤◌, sum, take}
use Rattle.ipv4_packet.specs.Packet.{words}
use Rattle.ipv4_packet.proofs.checksum.plain_sum.Given as goal

abbrev pub invariant-loop-place : goal.invariant-loop-place
invariant-loop-place l = record {
  sums : l.total ≡ sum (words (take l.place l.octets));
  small : l.total ≤ 65280 * l.place;
}
