use Rattle.std.proofs.Common.{arith}
use Rattle.tell_journal.specs.Journal.{link_value}
use Rattle.tell_journal.proofs.Lists.{Item, item_at, value_put}
use Rattle.tell_journal.proofs.network.write_links.Goals as goal

pub loop-place-preserved : goal.loop-place-preserved
loop-place-preserved c =
    let t = c.args.names.now in
    let found : Item t.links c.loop-place.place = item_at t.links c.loop-place.place (omega (arith, c.loop-place-test.true, c.links-place-end.ensures)) in
    value_put (link_value t) t.links c.loop-place.place found.item c.args.out.now c.loop-place.out c.write_comma.new.out c.write_link.new.out
    found.is c.loop-place.invariant c.in_ok-write_comma.ensures (c.in_ok-write_link.ensures found.item found.is)
