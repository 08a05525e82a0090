use Rattle.std.proofs.Common.{◌≡◌, min, take}
use Rattle.std.specs.List.{sum_by}
use Rattle.port_model.specs.Redirection.{greatest_tally}
use Rattle.show_text.specs.Shown.{branches_in, grants_in, labels_in}
use Rattle.world.specs.Network.{no_notes, world_of}
use Rattle.tell_show.proofs.totals.count_all.Given as goal

abbrev pub invariant-loop-place : goal.invariant-loop-place
invariant-loop-place g l = record {
  labels : l.labels ≡ min greatest_tally (sum_by labels_in (take l.place (world_of g.C.NodeController.seen l.world no_notes).sites));
  grants : l.grants ≡ min greatest_tally (sum_by grants_in (take l.place (world_of g.C.NodeController.seen l.world no_notes).sites));
  branches : l.branches ≡ min greatest_tally (sum_by branches_in (take l.place (world_of g.C.NodeController.seen l.world no_notes).sites));
}
