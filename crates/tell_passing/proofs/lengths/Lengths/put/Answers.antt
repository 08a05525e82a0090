use Rattle.std.proofs.Common.{◌++◌, ◌∙◌, List, append_assoc, ap, flat_map, slice_index_or, sym}
use Rattle.std.proofs.lemmas.Result.{on_ok_weaker}
use Rattle.net_types.specs.declared.node.Place.TheVariants.{Up}
use Rattle.world_model.specs.World.{World}
use Rattle.world.specs.Network.{no_notes, world_of}
use Rattle.telling_model.specs.declared.standing.Standing.{Standing}
use Rattle.tell_passing.specs.Lengths.{all_behind, behind, behind_at, link_ports}
use Rattle.tell_passing.proofs.lengths.Lengths.put.Goals as goal

pub returns-in_ok-put_queue-in-Switch : goal.returns-in_ok-put_queue-in-Switch
returns-in_ok-put_queue-in-Switch g c topology runs =
    let w0 : World = world_of g.C.NodeController.seen c.args.world.now no_notes in
    let start : List Standing = c.args.out.now.items in
    let ports : List Standing = flat_map (behind_at topology w0 c.in-Switch.node c.in-Switch.left) link_ports in
    on_ok_weaker c.put_ports.result
    (λ h. h ∙ ap (λ (items : List Standing). items ++ ports) c.in_ok-put_queue-in-Switch.ensures
    ∙ append_assoc start (behind w0 (slice_index_or c.in-Switch.left 0 0) (Up c.in-Switch.node)) ports
    ∙ ap (λ lengths. start ++ all_behind topology w0 lengths) (sym c.in-Switch.is))
    (c.put_ports.ensures topology runs)
