use Rattle.std.proofs.Common.{◌≡◌, ◌≢◌, arith}
use Rattle.ifmp_wire.specs.Tests.{op_at}
use Rattle.ifmp_wire.proofs.ReadLemmas.{tells-redirect, tells-reclaim, tells-reclaim_ack}
use Rattle.ifmp_wire.proofs.reader.redirection.Goals as goal

pub returns-in-4 : goal.returns-in-4
returns-in-4 c =
    let op : op_at c.args.octets.now ≡ 4 = omega arith in
    rw (c.u32_at.ensures, c.u32_at-2.ensures, c.u32_at-number.ensures, c.u16_at.ensures, c.label_at-label.ensures)
    (tells-redirect c.args.octets.now c.args.flow (λ i. omega (arith, c.type_inv.octets i)) c.requires.head op c.requires.kind c.requires.flow c.requires.label (c.requires.redirect op))

pub returns-in-5 : goal.returns-in-5
returns-in-5 c =
    let op : op_at c.args.octets.now ≡ 5 = omega arith in
    let other : op_at c.args.octets.now ≢ 4 = omega arith in
    rw (c.u32_at.ensures, c.u32_at-2.ensures, c.u32_at-number.ensures, c.label_at-label.ensures)
    (tells-reclaim c.args.octets.now c.args.flow (λ i. omega (arith, c.type_inv.octets i)) c.requires.head op c.requires.kind c.requires.flow c.requires.label (c.requires.others other))

pub returns-in_default : goal.returns-in_default
returns-in_default c =
    let op : op_at c.args.octets.now ≡ 6 = omega arith in
    let other : op_at c.args.octets.now ≢ 4 = omega arith in
    rw (c.u32_at.ensures, c.u32_at-2.ensures, c.u32_at-number.ensures, c.label_at-label.ensures)
    (tells-reclaim_ack c.args.octets.now c.args.flow (λ i. omega (arith, c.type_inv.octets i)) c.requires.head op c.requires.kind c.requires.flow c.requires.label (c.requires.others other))
