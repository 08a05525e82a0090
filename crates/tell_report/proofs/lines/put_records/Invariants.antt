use Rattle.std.proofs.Common.{◌≡◌, take}
use Rattle.lab_io.specs.Report.{IsPut}
use Rattle.record_text.specs.script_model.Reports.{record_lines}
use Rattle.lab_io.specs.Puts.{StaysWithin}
use Rattle.tell_report.proofs.lines.put_records.Given as goal

abbrev pub invariant-loop-item : goal.invariant-loop-item
invariant-loop-item g l = record {
  put : IsPut l.fn.writer l.writer (g.K.Sink.written l.fn.sink) (g.K.Sink.written l.sink) (record_lines l.names (take l.item-index l.records));
  room : StaysWithin l.fn.writer l.writer;
  faults : g.K.Sink.faults l.sink ≡ g.K.Sink.faults l.fn.sink;
}
