use Rattle.std.proofs.Common.{◌≡◌, ◌∙◌, ap, sym}
use Rattle.std.proofs.lemmas.Result.{on_ok_weaker}
use Rattle.world_model.specs.Controller.{Controller}
use Rattle.world_model.specs.World.{World, site_at}
use Rattle.world.specs.Network.{no_notes, world_of}
use Rattle.tell_show.proofs.Sites.{is_node, its_controller, its_switch, node_is, site_is, site_written}
use Rattle.tell_show.proofs.site.write_site.Goals as goal

pub write-requires : goal.write-requires
write-requires g c = is_node g.C.NodeController.seen c.args.names.now c.args.world.now c.requires.runs c.args.node c.requires.node

pub returns : goal.returns
returns g c = λ site found.
    let t = c.args.names.now in
    let seen = g.C.NodeController.seen in
    let w : World = world_of seen c.args.world.now no_notes in
    let node = c.args.node in
    let own : site.controller.node ≡ node = node_is t c.args.world.now.events node site (site_is seen t c.args.world.now c.requires.runs node site found) in
    let controller : site.controller ≡ seen c.controller.result.now = its_controller (site_at w node) site (seen c.controller.result.now) found (c.controller.ensures t c.requires.runs) in
    let switch : site.switch ≡ c.switch.result.now = its_switch (site_at w node) site c.switch.result.now found (c.switch.ensures t c.requires.runs) in
    on_ok_weaker c.write_queues.result
    (λ h. site_written t site node (seen c.controller.result.now) c.switch.result.now own controller switch c.args.out.now c.write.new.out c.write_lines.new.out c.write_queues.new.out
    (c.in_ok-write.ensures (ap (λ (k : Controller). k.node) (sym controller) ∙ own)) c.in_ok-write_lines.ensures h)
    (c.write_queues.ensures site found)
