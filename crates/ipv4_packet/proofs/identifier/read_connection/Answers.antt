use Rattle.std.proofs.Common.{◌≡◌, ◌<◌, IsTrue, get_or, arith}
use Rattle.std.proofs.lemmas.Bool.Decides.{nat_tests}
use Rattle.ipv4_packet.specs.Flow.{has_ports}
use Rattle.ipv4_packet.proofs.IdentifierLemmas.{identifies_connection}
use Rattle.ipv4_packet.proofs.identifier.read_connection.Goals as goal

pub returns-clause-found : goal.returns-clause-found
returns-clause-found c =
    let octets = c.args.octets.now in
    let first : get_or octets 0 0 ≡ 69 = omega arith in
    let alive : 0 < get_or octets 2 0 = omega arith in
    let ports : IsTrue (has_ports (get_or octets 3 0)) = grind (arith, nat_tests) in
    rw (c.u32_at.ensures, c.u32_at-2.ensures, c.u16_at.ensures, c.u16_at-2.ensures)
    (identifies_connection octets (λ i. omega (arith, c.type_inv.octets i)) (omega arith) first alive ports)
