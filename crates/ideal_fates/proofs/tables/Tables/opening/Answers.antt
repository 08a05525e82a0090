use Rattle.std.proofs.Common.{◌+◌, refl, rules, arith}
use Rattle.script_text.proofs.OpeningTables.{one_more}
use Rattle.ideal_fates.proofs.tables.Tables.opening.Goals as goal

pub loop-place-preserved : goal.loop-place-preserved
loop-place-preserved c =
    one_more c.args.topology.now c.loop-place.place c.loop-place.list.items c.push.new.self.items c.in_ok-table.field-0 (record { 0 = c.loop-place.place + 1 })
    refl (omega arith) c.loop-place.invariant c.in_ok-table.ensures (search rules)
