use Rattle.std.proofs.Common.{arith}
use Rattle.tell_journal.specs.Journal.{node_value}
use Rattle.tell_journal.proofs.Lists.{Item, item_at, node_is, value_put}
use Rattle.tell_journal.proofs.network.write_nodes.Goals as goal

pub loop-place-preserved : goal.loop-place-preserved
loop-place-preserved c =
    let t = c.args.names.now in
    let found : Item t.nodes c.loop-place.place = item_at t.nodes c.loop-place.place (omega (arith, c.loop-place-test.true, c.nodes-place-end.ensures.len)) in
    value_put node_value t.nodes c.loop-place.place found.item c.args.out.now c.loop-place.out c.write_comma.new.out c.write_node.new.out
    found.is c.loop-place.invariant c.in_ok-write_comma.ensures (c.in_ok-write_node.ensures found.item (node_is t c.loop-place.place found.item found.is))
