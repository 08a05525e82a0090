use Rattle.tell_journal.specs.Seen.{deeds_in}
use Rattle.tell_journal.proofs.Deeds.{event_written}
use Rattle.tell_journal.proofs.teller.JournalTeller.line.Goals as goal

pub returns : goal.returns
returns c =
    event_written c.args.context.now.names.now c.args.number c.args.context.now.line c.args.event.now (deeds_in c.args.self.now.before c.args.self.now.put.items c.args.notes.now)
    c.new-line.result c.write_front.new.out c.write_taken_and_made.new.out c.write_put_and_records.new.out c.as_slice-put.result.now c.records.result.now
    c.new-line.ensures c.in_ok-write_front.ensures c.in_ok-write_taken_and_made.ensures c.as_slice-put.ensures.value c.records.ensures c.in_ok-write_put_and_records.ensures
