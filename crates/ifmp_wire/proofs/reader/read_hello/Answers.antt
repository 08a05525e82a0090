use Rattle.std.proofs.Common.{arith}
use Rattle.ifmp_wire.proofs.ReadLemmas.{tells-hello}
use Rattle.ifmp_wire.proofs.reader.read_hello.Goals as goal

pub returns : goal.returns
returns c =
    rw (c.u32_at.ensures, c.u32_at-2.ensures, c.u32_at-3.ensures, c.u32_at-4.ensures)
    (tells-hello c.args.octets.now c.hello_kind.result (λ i. omega (arith, c.type_inv.octets i)) c.requires.head c.requires.op c.hello_kind.ensures)
