use Rattle.std.proofs.Common.{◌≡◌, ◌∙◌, ◌+◌, ◌*◌, ◌≤◌, List, ℕ, length, ap, arith}
use Rattle.octet_fields.specs.Fields.{written}
use Rattle.gsmp_wire.specs.Layout.{rows_octets}
use Rattle.gsmp_wire.proofs.Writing.{length-rows_octets, rows_written}
use Rattle.gsmp_wire.proofs.write.put_rows.Goals as goal

pub put_octets-requires : goal.put_octets-requires
put_octets-requires c =
    let size : length c.row_octets.result ≡ 16 = ap length c.row_octets.ensures in
    let same = ap length c.as_slice-row-items.ensures.rows in
    omega (arith, size, same, length-rows_octets c.args.rows.now)

pub loop-index-preserved : goal.loop-index-preserved
loop-index-preserved c =
    let same = ap length c.as_slice-row-items.ensures.rows in
    let room : c.args.place + length (rows_octets c.as_slice-row-items.result.now) ≤ length c.args.out.now =
    omega (arith, same, length-rows_octets c.args.rows.now, length-rows_octets c.as_slice-row-items.result.now) in
    c.put_octets.ensures
    ∙ ap (λ (octets : List ℕ). written c.loop-index.out (c.args.place + 16 * c.loop-index.index) octets) c.row_octets.ensures
    ∙ rows_written c.args.place c.loop-index.index c.as_slice-row-items.result.now _ c.args.out.now c.loop-index.out c.loop-index-test.true room c.loop-index.invariant
