use Rattle.std.proofs.Common.{◌≡◌, take}
use Rattle.octet_fields.specs.Fields.{written}
use Rattle.gsmp_wire.specs.Layout.{rows_octets}
use Rattle.gsmp_wire.proofs.write.put_rows.Given as goal

abbrev pub invariant-loop-index : goal.invariant-loop-index
invariant-loop-index l = l.out ≡ written l.initial.out l.place (rows_octets (take l.index l.row-items))
