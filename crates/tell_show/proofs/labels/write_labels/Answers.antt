use Rattle.std.proofs.Common.{List, arith}
use Rattle.port_model.specs.Labels.{Label}
use Rattle.show_text.specs.Port.{label_line}
use Rattle.tell_show.proofs.Along.{Item, item_at, line_put}
use Rattle.tell_show.proofs.labels.write_labels.Goals as goal

pub loop-place-preserved : goal.loop-place-preserved
loop-place-preserved c =
    let labels : List Label = c.args.session.now.session.labels in
    let found : Item labels c.loop-place.place = item_at labels c.loop-place.place (omega (arith, c.loop-place-test.true, c.held-place-end.ensures)) in
    line_put (label_line c.args.names.now c.args.node c.args.port) labels c.loop-place.place found.item c.args.out.now c.loop-place.out c.write_label_at.new.out
    found.is c.loop-place.invariant (c.in_ok-write_label_at.ensures found.item found.is)
