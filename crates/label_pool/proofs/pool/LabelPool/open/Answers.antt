use Rattle.std.proofs.Common.{◌≡◌, ◌+◌, ◌-◌, map, refl}
use Rattle.std.specs.List.{range_with_len}
use Rattle.net_types.specs.Label.{is_label_number}
use Rattle.label_pool.proofs.Marked.{marked_labels}
use Rattle.label_pool.proofs.Pools.{marks_new}
use Rattle.label_pool.proofs.pool.LabelPool.open.Goals as goal

pub invariant_of-result : goal.invariant_of-result
invariant_of-result c =
    marks_new c.args.least c.args.greatest (record { from = c.label_channel.result; to = c.label_channel-in-Ok.result })
    c.in-Ok.marks.items c.in-Ok.count c.in-Ok.ensures.marks c.in-Ok.ensures.count

pub returns-in-Ok-clause-ok : goal.returns-in-Ok-clause-ok
returns-in-Ok-clause-ok c =
    let marks : c.in-Ok.marks.items ≡ map is_label_number (range_with_len c.args.least (c.args.greatest + 1 - c.args.least)) = c.in-Ok.ensures.marks in
    rw (c.label_channel.ensures, c.label_channel-in-Ok.ensures, marks, marked_labels c.args.least c.args.greatest) refl
