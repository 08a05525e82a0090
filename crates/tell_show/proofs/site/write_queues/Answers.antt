use Rattle.std.proofs.lemmas.Result.{on_ok_weaker}
use Rattle.net_types.specs.declared.node.Place.TheVariants.{Down, Up}
use Rattle.world_model.specs.Places.{queue_at}
use Rattle.world_model.specs.World.{World}
use Rattle.world.specs.Network.{no_notes, world_of}
use Rattle.tell_show.proofs.Sites.{node_is, queue_found, queues_written, site_is}
use Rattle.tell_show.proofs.site.write_queues.Goals as goal

pub returns : goal.returns
returns g c = λ site found.
    let t = c.args.names.now in
    let seen = g.C.NodeController.seen in
    let w : World = world_of seen c.args.world.now no_notes in
    let node = c.args.node in
    let own = node_is t c.args.world.now.events node site (site_is seen t c.args.world.now c.requires.runs node site found) in
    on_ok_weaker c.write_port_queues.result
    (λ h. queues_written t site node own c.args.out.now c.write_queue_at.new.out c.write_queue_at-2.new.out c.write_port_queues.new.out (queue_at w (Down node)) (queue_at w (Up node))
    (queue_found w (Down node) site found) (queue_found w (Up node) site found) c.in_ok-write_queue_at.ensures c.in_ok-write_queue_at-2.ensures h)
    (c.write_port_queues.ensures site found)
