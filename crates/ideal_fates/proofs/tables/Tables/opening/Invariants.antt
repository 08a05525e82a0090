use Rattle.std.proofs.Common.{◌≡◌, take}
use Rattle.script_model.specs.State.{opening_tables}
use Rattle.ideal_fates.proofs.tables.Tables.opening.Given as goal

-- the routes of the nodes so far
abbrev pub invariant-loop-place : goal.invariant-loop-place
invariant-loop-place l = l.list.items ≡ take l.place (opening_tables l.topology)
