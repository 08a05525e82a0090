use Rattle.std.proofs.Common.{◌≡◌, ◌+◌, ◌∙◌, ℕ, List, length, min, slice_get, Some, arith, ap, sym}
use Rattle.net_types.specs.declared.node.Place.{Place}
use Rattle.port_model.specs.Redirection.{greatest_tally}
use Rattle.world_model.specs.Places.{places, queue_at}
use Rattle.world_model.specs.World.{World}
use Rattle.world.specs.Network.{no_notes, world_of}
use Rattle.tell_show.proofs.Sites.{place_known}
use Rattle.tell_show.proofs.Sums.{sum_all, sum_more}
use Rattle.tell_show.proofs.totals.count_cells.Goals as goal

pub queued-requires : goal.queued-requires
queued-requires g c =
    let known = place_known g.C.NodeController.seen c.args.names.now c.args.world.now c.requires c.loop-place.place c.place.result c.place.ensures in
    record { node = known.node; port = known.port }

pub loop-place-preserved : goal.loop-place-preserved
loop-place-preserved g c =
    let w : World = world_of g.C.NodeController.seen c.args.world.now no_notes in
    let is : slice_get (places w) c.loop-place.place ≡ Some c.place.result = ap (λ (ps : List Place). slice_get ps c.loop-place.place) (sym c.requires.round) ∙ c.place.ensures in
    c.saturating_add-cells.ensures
    ∙ ap (λ (n : ℕ). min (c.loop-place.cells + n) greatest_tally) (c.queued.ensures c.args.names.now c.requires)
    ∙ sum_more (λ (place : Place). length (queue_at w place)) (places w) c.loop-place.place c.place.result greatest_tally c.loop-place.cells is c.loop-place.invariant

pub returns : goal.returns
returns g c =
    let w : World = world_of g.C.NodeController.seen c.args.world.now no_notes in
    let size : length c.args.world.now.round.items ≡ length (places w) = ap length c.requires.round in
    sum_all (λ (place : Place). length (queue_at w place)) (places w) c.loop-place.place greatest_tally c.loop-place.cells
    (omega (arith, size, c.loop-place-test.false, c.loop-place.auto.place-end, c.places-place-end.ensures)) c.loop-place.invariant
