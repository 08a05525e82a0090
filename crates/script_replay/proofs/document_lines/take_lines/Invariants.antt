use Rattle.std.proofs.Common.{◌≡◌}
use Rattle.script_model.specs.Documents.{script_texts}
use Rattle.lab_io.specs.Puts.{StaysWithin}
use Rattle.script_replay.proofs.DocumentTakings.{AlongTo}
use Rattle.script_replay.proofs.document_lines.take_lines.Given as goal

abbrev pub invariant-loop-place : goal.invariant-loop-place
invariant-loop-place g l = record {
  along : AlongTo g.C.NodeController.seen (g.N.PolicyChoice.chosen l.choice) l.fn.told.writer (g.K.Sink.written l.fn.sink) l.fn.meter (script_texts l.lines) l.place l.replay l.told (g.K.Sink.written l.sink) l.meter;
  room : StaysWithin l.fn.told.writer l.told.writer;
  faults : g.K.Sink.faults l.sink ≡ g.K.Sink.faults l.fn.sink;
}
