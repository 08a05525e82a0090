use Rattle.std.proofs.Common.{◌≡◌, ◌∙◌, ◌*◌, ◌/◌, length, drop, true, false, sym, ap}
use Rattle.gsmp_wire.specs.Refusal.{is_row}
use Rattle.gsmp_wire.proofs.RowSteps.{are_rows-step}
use Rattle.gsmp_wire.proofs.Tails.{tail_is}
use Rattle.gsmp_wire.proofs.check.are_rows.Goals as goal

pub returns-then-not-is_row : goal.returns-then-not-is_row
returns-then-not-is_row c =
    let wrong : is_row (drop (16 * c.loop-row.row) c.args.rows.now) ≡ false = sym (ap is_row (tail_is (16 * c.loop-row.row) c.args.rows.now)) ∙ sym c.is_row.ensures ∙ c.if-not-is_row.true in
    let step = rw wrong at (are_rows-step (length c.args.rows.now / 16) c.loop-row.row c.args.rows.now c.loop-row-test.true) in
    sym step ∙ c.loop-row.invariant

pub loop-row-preserved : goal.loop-row-preserved
loop-row-preserved c =
    let right : is_row (drop (16 * c.loop-row.row) c.args.rows.now) ≡ true = sym (ap is_row (tail_is (16 * c.loop-row.row) c.args.rows.now)) ∙ sym c.is_row.ensures ∙ c.if-not-is_row.false in
    let step = rw right at (are_rows-step (length c.args.rows.now / 16) c.loop-row.row c.args.rows.now c.loop-row-test.true) in
    sym step ∙ c.loop-row.invariant
