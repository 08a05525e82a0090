use Rattle.std.proofs.Common.{◌≡◌, take}
use Rattle.lab_io.specs.Report.{IsPut}
use Rattle.lab_io.specs.Puts.{StaysWithin}
use Rattle.tell_trace.specs.Passages.{passage_lines}
use Rattle.tell_trace.specs.Trace.{cells_told}
use Rattle.tell_trace.proofs.tell.tell_cells.Given as goal

abbrev pub invariant-loop-standing : goal.invariant-loop-standing
invariant-loop-standing g l = record {
  put : IsPut l.fn.writer l.writer (g.K.Sink.written l.fn.sink) (g.K.Sink.written l.sink) (passage_lines l.names (cells_told l.ledger.frames l.fn.told (take l.standing-index l.cells)).passages);
  marks : l.told ≡ (cells_told l.ledger.frames l.fn.told (take l.standing-index l.cells)).marks;
  room : StaysWithin l.fn.writer l.writer;
  faults : g.K.Sink.faults l.sink ≡ g.K.Sink.faults l.fn.sink;
}
