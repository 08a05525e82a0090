use Rattle.std.proofs.Common.{◌≡◌, ◌-◌, ◌*◌, ◌/◌, length, drop}
use Rattle.gsmp_wire.specs.Refusal.{are_rows}
use Rattle.gsmp_wire.proofs.check.are_rows.Given as goal

abbrev pub invariant-loop-row : goal.invariant-loop-row
invariant-loop-row l = are_rows (length l.rows / 16 - l.row) (drop (16 * l.row) l.rows) ≡ are_rows (length l.rows / 16) l.rows
