use Rattle.std.proofs.Common.{List, arith}
use Rattle.port_model.specs.Grants.{Grant}
use Rattle.show_text.specs.Port.{grant_line}
use Rattle.tell_show.proofs.Along.{Item, item_at, line_put}
use Rattle.tell_show.proofs.grants.write_grants.Goals as goal

pub loop-place-preserved : goal.loop-place-preserved
loop-place-preserved c =
    let grants : List Grant = c.args.grants.now.grants in
    let found : Item grants c.loop-place.place = item_at grants c.loop-place.place (omega (arith, c.loop-place-test.true, c.len-place-end.ensures)) in
    line_put (grant_line c.args.names.now c.args.node c.args.port) grants c.loop-place.place found.item c.args.out.now c.loop-place.out c.write_grant_at.new.out
    found.is c.loop-place.invariant (c.in_ok-write_grant_at.ensures found.item found.is)
