use Rattle.std.proofs.Common.{◌≡◌, ◌≤◌, length, map}
use Rattle.std.specs.List.{range_with_len}
use Rattle.net_types.specs.Label.{is_label_number}
use Rattle.label_pool.specs.Marks.{marked}
use Rattle.label_pool.proofs.marks.all_spare.Given as goal

abbrev pub invariant-loop-place : goal.invariant-loop-place
invariant-loop-place l =
    (l.marks.items ≡ map is_label_number (range_with_len l.least l.place))
    × ((l.count ≡ length (marked l.least l.marks.items)) × (l.count ≤ l.place))
