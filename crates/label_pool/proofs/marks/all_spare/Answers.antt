use Rattle.std.proofs.Common.{◌≡◌, ◌≤◌, ◌+◌, arith}
use Rattle.std.specs.Prelude.{if◌then◌else◌}
use Rattle.net_types.specs.Label.{is_label_number}
use Rattle.label_pool.proofs.Marked.{more_marks, marked_push}
use Rattle.label_pool.proofs.marks.all_spare.Goals.{then-spare, else-spare}
use Rattle.label_pool.proofs.marks.all_spare.Goals as goal

pub loop-place-preserved : goal.loop-place-preserved
loop-place-preserved c =
    let counted : c.if-spare.count ≡ c.loop-place.count + (if c.is_label_number-spare.result then 1 else 0) = elim c.if-spare.branch [
      | then-spare w ↦ rw w.if-spare.true (omega (arith, w.count-is))
      | else-spare w ↦ rw w.if-spare.false (omega (arith, w.count-is))
    ] in
    let few : c.if-spare.count ≤ c.loop-place.count + 1 = elim c.if-spare.branch [
      | then-spare w ↦ omega (arith, w.count-is)
      | else-spare w ↦ omega (arith, w.count-is)
    ] in (
      rw (c.in_ok-push.ensures.items, c.is_label_number-spare.ensures)
          (more_marks is_label_number c.args.least c.loop-place.place c.loop-place.marks.items c.loop-place.invariant.0),
      (
        rw c.in_ok-push.ensures.items
            (omega (arith, counted, c.loop-place.invariant.1.0, marked_push c.args.least c.loop-place.marks.items c.is_label_number-spare.result)),
        omega (arith, few, c.loop-place.invariant.1.1),
      ),
    )
