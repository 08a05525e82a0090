use Rattle.std.proofs.Common.{arith}
use Rattle.ifmp_wire.proofs.ReadLemmas.{tells-error}
use Rattle.ifmp_wire.proofs.reader.read_error.Goals as goal

pub returns-clause-found : goal.returns-clause-found
returns-clause-found c =
    rw (c.u32_at.ensures, c.u32_at-2.ensures, c.u32_at-3.ensures, c.label_at.ensures)
    (tells-error c.args.octets.now (λ i. omega (arith, c.type_inv.octets i)) c.requires.head c.requires.op (omega arith) (omega arith) (omega arith) (omega arith) (omega arith) (omega arith))
