use Rattle.std.proofs.Common.{◌≡◌}
use Rattle.std.specs.List.{repeat}
use Rattle.lab_io.specs.Report.{IsPut}
use Rattle.world_model.specs.Run.{round, put_away, world_after}
use Rattle.world.specs.Network.{world_of}
use Rattle.telling_model.specs.Placed.{placed_events}
use Rattle.telling_model.specs.Tale.{told}
use Rattle.lab_io.specs.Puts.{StaysWithin}
use Rattle.network_run.specs.Coming.{IsReady}
use Rattle.network_run.specs.Telling.{meter_behind}
use Rattle.network_run.proofs.carries.rounds.Given as goal

abbrev pub ghost-next_waiting : goal.ghost-next_waiting
ghost-next_waiting g a = g.topology

abbrev pub ghost-pass_over : goal.ghost-pass_over
ghost-pass_over g a = g.topology

abbrev pub ghost-round : goal.ghost-round
ghost-round g a = g.topology

abbrev pub invariant-loop-turn : goal.invariant-loop-turn
invariant-loop-turn g l = record {
  world : world_of g.C.NodeController.seen l.world l.notes ≡ put_away (world_after g.topology (world_of g.C.NodeController.seen l.fn.world l.fn.notes) (repeat l.turn (round (world_of g.C.NodeController.seen l.fn.world l.fn.notes))));
  ready : IsReady g.C.NodeController.seen g.topology l.world l.notes;
  put : IsPut l.fn.told.writer l.told.writer (g.K.Sink.written l.fn.sink) (g.K.Sink.written l.sink) (told g.T.Teller.tale (g.T.Teller.state l.fn.told.teller) g.topology (world_of g.C.NodeController.seen l.fn.world l.fn.notes) (placed_events l.context.line (repeat l.turn (round (world_of g.C.NodeController.seen l.fn.world l.fn.notes))))).octets;
  knows : g.T.Teller.state l.told.teller ≡ (told g.T.Teller.tale (g.T.Teller.state l.fn.told.teller) g.topology (world_of g.C.NodeController.seen l.fn.world l.fn.notes) (placed_events l.context.line (repeat l.turn (round (world_of g.C.NodeController.seen l.fn.world l.fn.notes))))).state;
  room : StaysWithin l.fn.told.writer l.told.writer;
  faults : g.K.Sink.faults l.sink ≡ g.K.Sink.faults l.fn.sink;
  meter : l.meter ≡ meter_behind l.fn.meter g.topology (world_of g.C.NodeController.seen l.fn.world l.fn.notes) (repeat l.turn (round (world_of g.C.NodeController.seen l.fn.world l.fn.notes)));
}
