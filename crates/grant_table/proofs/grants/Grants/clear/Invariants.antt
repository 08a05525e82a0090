use Rattle.std.proofs.Common.{◌≤◌, length}
use Rattle.std.specs.Vec.{vec_capacity}
use Rattle.grant_table.proofs.grants.Grants.clear.Given as goal

abbrev pub invariant-loop-held : goal.invariant-loop-held
invariant-loop-held l = record {
  room : 256 ≤ vec_capacity l.self-inside.held;
  tags_room : 256 ≤ vec_capacity l.self-inside.tags;
}

abbrev pub decreases-loop-held : goal.decreases-loop-held
decreases-loop-held l = length l.self-inside.held.items
