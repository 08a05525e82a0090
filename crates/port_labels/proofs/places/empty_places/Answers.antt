use Rattle.std.proofs.Common.{◌∙◌, None, arith}
use Rattle.std.proofs.lemmas.List.{replicate_more}
use Rattle.port_labels.proofs.places.empty_places.Goals as goal

pub loop-place-preserved : goal.loop-place-preserved
loop-place-preserved c = record {
  empty = c.in-Ok.ensures.items ∙ rw c.loop-place.invariant.empty (replicate_more c.loop-place._place None);
  room = omega (arith, c.loop-place.invariant.room, c.in-Ok.ensures.capacity);
}
