use Rattle.std.proofs.Common.{◌≡◌, ◌∙◌, List, ap, length, slice_get, sym, arith}
use Rattle.net_types.specs.declared.node.Place.{Place}
use Rattle.world_model.specs.Conditions.{IsPlace}
use Rattle.world_model.specs.Places.{queue_at}
use Rattle.world.specs.Network.{no_notes, world_of}
use Rattle.world.proofs.Conditions.{place_in, queue_low}
use Rattle.world.proofs.Places.{place_is}
use Rattle.world.proofs.Starts.{empty_more, no_cells}
use Rattle.world.proofs.world.World.first_holding.Goals as goal

pub queued-requires-clause-node : goal.queued-requires-clause-node
queued-requires-clause-node g c =
    let runs = c.requires.1.1.0 in
    let is : IsPlace g.topology c.place.result = place_is g.topology _ 1 _ runs.world.sites (omega arith) (omega (arith, runs.world.nodes)) c.loop-place.place c.place.result (ap (λ (ps : List Place). slice_get ps c.loop-place.place) (sym runs.round) ∙ c.place.ensures) in
    place_in g.C.NodeController.seen g.topology c.args.self.now runs c.place.result is

pub queued-requires-clause-port : goal.queued-requires-clause-port
queued-requires-clause-port g c =
    let runs = c.requires.1.1.0 in
    let is : IsPlace g.topology c.place.result = place_is g.topology _ 1 _ runs.world.sites (omega arith) (omega (arith, runs.world.nodes)) c.loop-place.place c.place.result (ap (λ (ps : List Place). slice_get ps c.loop-place.place) (sym runs.round) ∙ c.place.ensures) in
    queue_low g.C.NodeController.seen g.topology c.args.self.now runs c.place.result is

pub loop-place-preserved : goal.loop-place-preserved
loop-place-preserved g c =
    let size : c.queued.result ≡ length (queue_at (world_of g.C.NodeController.seen c.args.self.now no_notes) c.place.result) = c.queued.ensures g.topology c.requires.1.1.0 in
    empty_more g.C.NodeController.seen c.args.self.now c.args.from c.loop-place.place c.place.result c.loop-place.invariant c.place.ensures
    (no_cells (queue_at (world_of g.C.NodeController.seen c.args.self.now no_notes) c.place.result) (omega (arith, size, c.if-queued-gt0.false)))
