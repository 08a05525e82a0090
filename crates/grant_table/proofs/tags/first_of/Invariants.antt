use Rattle.std.proofs.Common.{◌≡◌, ◌-◌, drop, length}
use Rattle.std.specs.Prelude.{find}
use Rattle.grant_table.proofs.Found.{carries}
use Rattle.grant_table.proofs.tags.first_of.Given as goal

abbrev pub invariant-loop-from : goal.invariant-loop-from
invariant-loop-from l = record {
  passed : find (carries l.flow) l.held ≡ find (carries l.flow) (drop l.from l.held);
}

abbrev pub decreases-loop-from : goal.decreases-loop-from
decreases-loop-from l = length l.tags - l.from
