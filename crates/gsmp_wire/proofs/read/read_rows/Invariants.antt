use Rattle.std.proofs.Common.{◌≡◌, ◌-◌, ◌*◌, ◌++◌, length, drop}
use Rattle.gsmp_wire.specs.Fields.{rows_in}
use Rattle.gsmp_wire.proofs.read.read_rows.Given as goal

abbrev pub invariant-loop-row : goal.invariant-loop-row
invariant-loop-row l = (length l.read ≡ l.row) × (l.read ++ rows_in (l.count - l.row) (drop (16 * l.row) l.rows) ≡ rows_in l.count l.rows)
