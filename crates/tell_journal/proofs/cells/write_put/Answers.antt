use Rattle.std.proofs.lemmas.Option.{slice_get-get_or}
use Rattle.tell_journal.specs.Journal.{cell_value}
use Rattle.tell_journal.proofs.Lists.{value_put}
use Rattle.tell_journal.proofs.cells.write_put.Goals as goal

pub loop-index-preserved : goal.loop-index-preserved
loop-index-preserved c =
    let put = c.args.put.now in
    value_put (cell_value c.args.names.now) put c.loop-index.index _ c.args.out.now c.loop-index.out c.write_comma.new.out c.write_cell.new.out
    (slice_get-get_or put c.loop-index.index _ c.loop-index-test.true)
    c.loop-index.invariant c.in_ok-write_comma.ensures c.in_ok-write_cell.ensures
