use Rattle.std.proofs.Common.{◌≡◌, length, min, take}
use Rattle.std.specs.List.{sum_by}
use Rattle.port_model.specs.Redirection.{greatest_tally}
use Rattle.world_model.specs.Places.{places, queue_at}
use Rattle.world.specs.Network.{no_notes, world_of}
use Rattle.tell_show.proofs.totals.count_cells.Given as goal

abbrev pub invariant-loop-place : goal.invariant-loop-place
invariant-loop-place g l = l.cells ≡ min greatest_tally (sum_by (λ place. length (queue_at (world_of g.C.NodeController.seen l.world no_notes) place)) (take l.place (places (world_of g.C.NodeController.seen l.world no_notes))))
