use Rattle.std.proofs.Common.{◌≡◌, take}
use Rattle.lab_io.specs.Report.{IsPut}
use Rattle.lab_io.specs.Puts.{StaysWithin}
use Rattle.tell_trace.proofs.Told.{links_lines}
use Rattle.tell_trace.proofs.tell.tell_links.Given as goal

abbrev pub invariant-loop-place : goal.invariant-loop-place
invariant-loop-place g l = record {
  put : IsPut l.fn.writer l.writer (g.K.Sink.written l.fn.sink) (g.K.Sink.written l.sink) (links_lines l.names (take l.place l.names.links));
  room : StaysWithin l.fn.writer l.writer;
  faults : g.K.Sink.faults l.sink ≡ g.K.Sink.faults l.fn.sink;
}
