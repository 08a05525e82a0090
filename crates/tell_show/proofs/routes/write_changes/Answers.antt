use Rattle.std.proofs.Common.{List, arith}
use Rattle.ipv4_forward.specs.declared.change.RouteChange.{RouteChange}
use Rattle.tell_show.proofs.Along.{Item, item_at}
use Rattle.tell_show.proofs.Waits.{wait_put}
use Rattle.tell_show.proofs.routes.write_changes.Goals as goal

pub loop-place-preserved : goal.loop-place-preserved
loop-place-preserved c =
    let waiting : List RouteChange = c.args.routes.now.waiting in
    let found : Item waiting c.loop-place.place = item_at waiting c.loop-place.place (omega (arith, c.loop-place-test.true, c.waiting-place-end.ensures)) in
    wait_put c.args.names.now c.args.node c.args.routes.now.is_begun waiting c.loop-place.place found.item c.args.out.now c.loop-place.out c.write_change_at.new.out
    found.is c.loop-place.invariant (c.in_ok-write_change_at.ensures found.item found.is)
