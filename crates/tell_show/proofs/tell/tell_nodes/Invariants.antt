use Rattle.std.proofs.Common.{◌≡◌, take, flat_map}
use Rattle.lab_io.specs.Report.{IsPut}
use Rattle.lab_io.specs.Puts.{StaysWithin}
use Rattle.show_text.specs.Shown.{site_lines}
use Rattle.world.specs.Network.{no_notes, world_of}
use Rattle.tell_show.proofs.tell.tell_nodes.Given as goal

abbrev pub invariant-loop-place : goal.invariant-loop-place
invariant-loop-place g l = record {
  put : IsPut l.fn.writer l.writer (g.K.Sink.written l.fn.sink) (g.K.Sink.written l.sink) (flat_map (site_lines l.names) (take l.place (world_of g.C.NodeController.seen l.world no_notes).sites));
  room : StaysWithin l.fn.writer l.writer;
  faults : g.K.Sink.faults l.sink ≡ g.K.Sink.faults l.fn.sink;
}
