use Rattle.std.proofs.Common.{◌≡◌, ◌+◌, ◌-◌, ◌≤◌, length, take}
use Rattle.lab_io.specs.Report.{IsPut}
use Rattle.lab_io.proofs.report_writer.ReportWriter.put.Given as goal

abbrev pub invariant-loop-done : goal.invariant-loop-done
invariant-loop-done g l = record {
  put : IsPut l.fn.self l.self (g.K.Sink.written l.fn.sink) (g.K.Sink.written l.sink) (take l.done l.octets);
  room : l.self.room ≡ l.fn.self.room;
  bound : length l.self.held ≤ l.self.room;
  limit : l.room ≡ l.self.room;
  faults : g.K.Sink.faults l.sink ≡ g.K.Sink.faults l.fn.sink;
  within : l.done ≤ length l.octets;
  fits : length l.fn.self.held + length l.octets ≤ l.fn.self.room
      → (l.sink ≡ l.fn.sink) × (length l.self.held ≡ length l.fn.self.held + l.done);
}

abbrev pub decreases-loop-done : goal.decreases-loop-done
decreases-loop-done g l = length l.octets - l.done
