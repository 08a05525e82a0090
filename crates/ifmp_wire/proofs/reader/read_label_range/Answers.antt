use Rattle.std.proofs.Common.{◌≤◌, arith}
use Rattle.octet_fields.specs.Fields.{u32_at}
use Rattle.ifmp_wire.proofs.ReadLemmas.{tells-label_range}
use Rattle.ifmp_wire.proofs.reader.read_label_range.Goals as goal

pub returns-clause-found : goal.returns-clause-found
returns-clause-found c =
    let order : u32_at c.args.octets.now 16 ≤ u32_at c.args.octets.now 20 = rw (← c.u32_at.ensures, ← c.u32_at-2.ensures) c.if-u32_at.false in
    rw (c.u32_at-3.ensures, c.u32_at-4.ensures, c.u32_at-5.ensures, c.label_at.ensures, c.label_at-2.ensures)
    (tells-label_range c.args.octets.now (λ i. omega (arith, c.type_inv.octets i)) c.requires.head c.requires.op (omega arith) (omega arith) order)
