use Rattle.std.proofs.Common.{◌≡◌, ◌≤◌, None, replicate}
use Rattle.std.specs.Vec.{vec_capacity}
use Rattle.port_labels.proofs.places.empty_places.Given as goal

abbrev pub invariant-loop-place : goal.invariant-loop-place
invariant-loop-place l = record {
  empty : l.places.items ≡ replicate l._place None;
  room : l.count ≤ vec_capacity l.places;
}
