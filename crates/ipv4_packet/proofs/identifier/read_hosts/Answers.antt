use Rattle.std.proofs.Common.{◌<◌, get_or, arith}
use Rattle.ipv4_packet.proofs.IdentifierLemmas.{identifies_hosts}
use Rattle.ipv4_packet.proofs.identifier.read_hosts.Goals as goal

pub returns-clause-found : goal.returns-clause-found
returns-clause-found c =
    let octets = c.args.octets.now in
    let alive : 0 < get_or octets 2 0 = omega arith in
    rw (c.u32_at.ensures, c.u32_at-2.ensures)
    (identifies_hosts octets (λ i. omega (arith, c.type_inv.octets i)) (omega arith) (omega arith) (omega arith) (omega arith) alive)
