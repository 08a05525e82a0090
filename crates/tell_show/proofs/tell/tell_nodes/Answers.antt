use Rattle.std.proofs.Common.{◌∙◌, suc, List, drop, refl, subst, take, arith, flat_map}
use Rattle.lab_io.specs.Report.{IsPut}
use Rattle.lab_io.specs.Puts.{Puts}
use Rattle.lab_io.proofs.Stops.{nothing_put, put_then, stays, stays_then, stops_at}
use Rattle.world_model.specs.World.{Site, World}
use Rattle.world.specs.Network.{no_notes, world_of}
use Rattle.show_text.specs.Shown.{site_lines}
use Rattle.tell_show.proofs.Along.{Item, item_at, next_line, rest_lines, take_whole}
use Rattle.tell_show.proofs.Sites.{node_in, nodes_are, site_found}
use Rattle.tell_show.proofs.tell.tell_nodes.Goals as goal

pub tell_node-requires-clause-node : goal.tell_node-requires-clause-node
tell_node-requires-clause-node g c =
    node_in g.C.NodeController.seen c.args.names.now c.args.world.now c.requires c.loop-place.place (omega (arith, c.loop-place-test.true, c.nodes-place-end.ensures.len))

pub returns-in_err-tell_node-clause-put : goal.returns-in_err-tell_node-clause-put
returns-in_err-tell_node-clause-put g c =
    let t = c.args.names.now in
    let seen = g.C.NodeController.seen in
    let i = c.loop-place.place in
    let w : World = world_of seen c.args.world.now no_notes in
    let found : Item w.sites i = item_at w.sites i (omega (arith, c.loop-place-test.true, c.nodes-place-end.ensures.len, nodes_are seen t c.args.world.now c.requires)) in
    subst (Puts c.from_residual.result c.args.writer.now c.tell_node.new.writer (g.K.Sink.written c.args.sink.now) (g.K.Sink.written c.tell_node.new.sink))
    (rest_lines (site_lines t) w.sites i found.item found.is)
    (stops_at c.from_residual.result _ c.args.writer.now c.loop-place.writer c.tell_node.new.writer (g.K.Sink.written c.args.sink.now) (g.K.Sink.written c.loop-place.sink) (g.K.Sink.written c.tell_node.new.sink)
    (flat_map (site_lines t) (take i w.sites)) (site_lines t found.item) (flat_map (site_lines t) (drop (suc i) w.sites)) c.from_residual.ensures.1 c.loop-place.invariant.put
    (c.in_err-tell_node.ensures.put found.item (site_found seen t c.args.world.now c.requires i found.item found.is)))

pub returns-in_err-tell_node-clause-room : goal.returns-in_err-tell_node-clause-room
returns-in_err-tell_node-clause-room g c = stays_then _ _ _ c.loop-place.invariant.room c.in_err-tell_node.ensures.room

pub loop-place-init : goal.loop-place-init
loop-place-init g c = record { put = nothing_put _ _; room = stays _; faults = refl }

pub loop-place-preserved : goal.loop-place-preserved
loop-place-preserved g c =
    let t = c.args.names.now in
    let seen = g.C.NodeController.seen in
    let i = c.loop-place.place in
    let w : World = world_of seen c.args.world.now no_notes in
    let found : Item w.sites i = item_at w.sites i (omega (arith, c.loop-place-test.true, c.nodes-place-end.ensures.len, nodes_are seen t c.args.world.now c.requires)) in
    record {
      put = subst (IsPut c.args.writer.now c.tell_node.new.writer (g.K.Sink.written c.args.sink.now) (g.K.Sink.written c.tell_node.new.sink))
          (next_line (site_lines t) w.sites i found.item found.is)
          (put_then c.args.writer.now c.loop-place.writer c.tell_node.new.writer (g.K.Sink.written c.args.sink.now) (g.K.Sink.written c.loop-place.sink) (g.K.Sink.written c.tell_node.new.sink)
          (flat_map (site_lines t) (take i w.sites)) (site_lines t found.item) c.loop-place.invariant.put
          (c.in_ok-tell_node.ensures.put found.item (site_found seen t c.args.world.now c.requires i found.item found.is)));
      room = stays_then _ _ _ c.loop-place.invariant.room c.in_ok-tell_node.ensures.room;
      faults = c.in_ok-tell_node.ensures.faults ∙ c.loop-place.invariant.faults;
    }

pub returns-clause-put : goal.returns-clause-put
returns-clause-put g c =
    let t = c.args.names.now in
    let seen = g.C.NodeController.seen in
    let w : World = world_of seen c.args.world.now no_notes in
    subst (λ (sites : List Site). IsPut c.args.writer.now c.loop-place.writer (g.K.Sink.written c.args.sink.now) (g.K.Sink.written c.loop-place.sink) (flat_map (site_lines t) sites))
    (take_whole w.sites c.loop-place.place (omega (arith, c.loop-place-test.false, c.loop-place.auto.place-end, c.nodes-place-end.ensures.len, nodes_are seen t c.args.world.now c.requires)))
    c.loop-place.invariant.put
