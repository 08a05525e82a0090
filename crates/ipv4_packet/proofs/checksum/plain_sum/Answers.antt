use Rattle.std.proofs.Common.{◌≡◌, ◌<◌, ◌%◌, ◌*◌, length, take, get_or, cond, eqb, arith}
use Rattle.std.proofs.lemmas.List.{take_more, length-take-le}
use Rattle.std.proofs.lemmas.Bool.Decides.{nat_tests}
use Rattle.ipv4_packet.proofs.WordLemmas.{sum_words-append_one}
use Rattle.ipv4_packet.proofs.checksum.plain_sum.Goals as goal
use Rattle.ipv4_packet.proofs.checksum.plain_sum.Goals.{then-place-eq0, else-place-eq0}

pub loop-place-preserved : goal.loop-place-preserved
loop-place-preserved c =
    let place = c.loop-place.place in
    let octets = c.args.octets.now in
    let octet = get_or octets place 0 in
    let inside : place < length octets = omega arith in
    let long : length (take place octets) ≡ place = length-take-le place octets (omega arith) in
    let value : c.if-place-eq0.total ≡ cond (eqb (place % 2) 0) (octet * 256) octet =
    elim c.if-place-eq0.branch [ then-place-eq0 w ↦ grind (arith, nat_tests) | else-place-eq0 w ↦ grind (arith, nat_tests) ] in
    let step = rw long at (sum_words-append_one (take place octets) octet) in
    record {
      sums = rw (take_more octets place 0 inside, step) (omega arith);
      small = elim c.if-place-eq0.branch [ then-place-eq0 w ↦ omega (arith, c.type_inv.octets place) | else-place-eq0 w ↦ omega (arith, c.type_inv.octets place) ];
    }
