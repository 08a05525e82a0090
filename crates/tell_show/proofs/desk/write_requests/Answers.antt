use Rattle.std.proofs.Common.{List, arith}
use Rattle.port_model.specs.Desk.{Standing, message_at}
use Rattle.show_text.specs.Node.{request_line}
use Rattle.tell_show.proofs.Along.{Item, item_at, line_put}
use Rattle.tell_show.proofs.desk.write_requests.Goals as goal

pub loop-place-preserved : goal.loop-place-preserved
loop-place-preserved c =
    let standing : List Standing = c.args.desk.now.standing in
    let found : Item standing c.loop-place.place = item_at standing c.loop-place.place (omega (arith, c.loop-place-test.true, c.standing-place-end.ensures.len)) in
    line_put (λ s. request_line c.args.names.now c.args.node (message_at c.args.desk.now s)) standing c.loop-place.place found.item c.args.out.now c.loop-place.out c.write_request_at.new.out
    found.is c.loop-place.invariant (c.in_ok-write_request_at.ensures found.item found.is)
