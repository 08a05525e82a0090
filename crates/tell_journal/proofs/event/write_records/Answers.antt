use Rattle.std.proofs.Common.{Some, sym, ap, ◌∙◌}
use Rattle.std.proofs.lemmas.Option.{slice_get-get_or}
use Rattle.tell_journal.specs.Journal.{record_value}
use Rattle.tell_journal.proofs.Lists.{value_put}
use Rattle.tell_journal.proofs.event.write_records.Goals as goal

pub loop-index-preserved : goal.loop-index-preserved
loop-index-preserved c =
    let records = c.args.records.now in
    let item = c.index-records-index.result in
    value_put (record_value c.args.names.now) records c.loop-index.index item c.args.out.now c.loop-index.out c.write_comma.new.out c.write_record_value.new.out
    (slice_get-get_or records c.loop-index.index item c.loop-index-test.true ∙ ap Some (sym c.index-records-index.is))
    c.loop-index.invariant c.in_ok-write_comma.ensures c.in_ok-write_record_value.ensures
