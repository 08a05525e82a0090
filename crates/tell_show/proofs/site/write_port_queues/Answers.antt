use Rattle.std.proofs.Common.{◌≡◌, ◌++◌, ◌∙◌, List, length, slice_get, Some, append-nil, arith, ap, subst, sym}
use Rattle.net_types.specs.declared.node.PortNo.{PortNo}
use Rattle.net_types.specs.declared.node.Place.TheVariants.{Out}
use Rattle.atm_cells.specs.declared.cell.Cell.{Cell}
use Rattle.world_model.specs.Controller.{Controller, ports_of}
use Rattle.world_model.specs.World.{World, site_at}
use Rattle.world.specs.Network.{no_notes, world_of}
use Rattle.show_text.specs.Shown.{queue_line}
use Rattle.tell_show.specs.Held.{port_queue_line}
use Rattle.tell_show.proofs.Along.{line_put, lines_put}
use Rattle.tell_show.proofs.Sites.{IsSiteOf, its_controller, port_low, queue_found, site_is, site_of_controller}
use Rattle.tell_show.proofs.site.write_port_queues.Goals as goal

pub write_queue_at-requires-clause-port : goal.write_queue_at-requires-clause-port
write_queue_at-requires-clause-port g c =
    let t = c.args.names.now in
    let seen = g.C.NodeController.seen in
    let w : World = world_of seen c.args.world.now no_notes in
    let found : IsSiteOf (site_at w c.args.node) (seen c.controller-controller.result.now) = site_of_controller (site_at w c.args.node) (seen c.controller-controller.result.now) (c.controller-controller.ensures t c.requires.runs) in
    let port : slice_get (ports_of found.site.controller) c.loop-place.place ≡ Some c.port_at-port.result =
    subst (λ (k : Controller). slice_get (ports_of k) c.loop-place.place ≡ Some c.port_at-port.result) (sym found.is) c.port_at-port.ensures in
    omega (arith, port_low t c.args.world.now.events c.args.node found.site c.loop-place.place c.port_at-port.result (site_is seen t c.args.world.now c.requires.runs c.args.node found.site found.found) port)

pub loop-place-init : goal.loop-place-init
loop-place-init g c = λ site found. sym (append-nil c.args.out.now)

pub loop-place-preserved : goal.loop-place-preserved
loop-place-preserved g c = λ site found.
    let t = c.args.names.now in
    let seen = g.C.NodeController.seen in
    let w : World = world_of seen c.args.world.now no_notes in
    let node = c.args.node in
    let port : PortNo = c.port_at-port.result in
    let controller : site.controller ≡ seen c.controller-controller.result.now = its_controller (site_at w node) site (seen c.controller-controller.result.now) found (c.controller-controller.ensures t c.requires.runs) in
    let is : slice_get (ports_of site.controller) c.loop-place.place ≡ Some port =
    subst (λ (k : Controller). slice_get (ports_of k) c.loop-place.place ≡ Some port) (sym controller) c.port_at-port.ensures in
    line_put (port_queue_line t site node) (ports_of site.controller) c.loop-place.place port c.args.out.now c.loop-place.out c.write_queue_at.new.out
    is (c.loop-place.invariant site found)
    (c.in_ok-write_queue_at.ensures ∙ ap (λ (cells : List Cell). c.loop-place.out ++ queue_line t (Out node port) (length cells)) (queue_found w (Out node port) site found))

pub returns : goal.returns
returns g c = λ site found.
    let t = c.args.names.now in
    let seen = g.C.NodeController.seen in
    let w : World = world_of seen c.args.world.now no_notes in
    let node = c.args.node in
    let controller : site.controller ≡ seen c.controller-controller.result.now = its_controller (site_at w node) site (seen c.controller-controller.result.now) found (c.controller-controller.ensures t c.requires.runs) in
    let size : length (ports_of site.controller) ≡ length (ports_of (seen c.controller-controller.result.now)) = ap (λ (k : Controller). length (ports_of k)) controller in
    lines_put (port_queue_line t site node) (ports_of site.controller) c.loop-place.place c.args.out.now c.loop-place.out
    (omega (arith, size, c.loop-place-test.false, c.loop-place.auto.place-end, c.ports-place-end.ensures)) (c.loop-place.invariant site found)
