use Rattle.std.proofs.Common.{List, arith}
use Rattle.controller.specs.Controlling.{controller_of}
use Rattle.world_model.specs.Controller.{Linked}
use Rattle.show_text.specs.Shown.{linked_lines}
use Rattle.tell_show.proofs.Along.{Item, item_at, line_put}
use Rattle.tell_show.proofs.shown_controller.write_ports.Goals as goal

pub loop-place-preserved : goal.loop-place-preserved
loop-place-preserved g c =
    let ports : List Linked = (controller_of g.E.PortEngine.seen c.args.controller.now).ports in
    let found : Item ports c.loop-place.place = item_at ports c.loop-place.place (omega (arith, c.loop-place-test.true, c.ports-place-end.ensures)) in
    line_put (linked_lines c.args.names.now c.args.node) ports c.loop-place.place found.item c.args.out.now c.loop-place.out c.write_port_at.new.out
    found.is c.loop-place.invariant (c.in_ok-write_port_at.ensures found.item found.is)
