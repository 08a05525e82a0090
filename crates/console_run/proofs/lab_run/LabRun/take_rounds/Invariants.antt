use Rattle.std.proofs.Common.{◌≡◌, ◌+◌, ◌-◌, ◌*◌, ◌≤◌}
use Rattle.lab_io.specs.Puts.{StaysWithin}
use Rattle.world_model.specs.Limits.{event_limit}
use Rattle.console_run.specs.Task.{lab_of}
use Rattle.console_run.proofs.Rounds.{IsAmid}
use Rattle.console_run.proofs.lab_run.LabRun.take_rounds.Given as goal

abbrev pub invariant-loop-turn : goal.invariant-loop-turn
invariant-loop-turn g l = record {
  amid : IsAmid (lab_of l.fn.self) (lab_of l.self) l._turn l.count l.fn.writer l.writer (g.K.Sink.written l.fn.sink) (g.K.Sink.written l.sink);
  room : StaysWithin l.fn.writer l.writer;
  faults : g.K.Sink.faults l.sink ≡ g.K.Sink.faults l.fn.sink;
  few : l.self.lab.events + 2 * (l.count - l._turn) ≤ event_limit;
}
