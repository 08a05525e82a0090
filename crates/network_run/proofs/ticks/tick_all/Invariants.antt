use Rattle.std.proofs.Common.{◌≡◌, ◌+◌, take}
use Rattle.lab_io.specs.Report.{IsPut}
use Rattle.world_model.specs.Run.{tick_of_all, put_away, world_after}
use Rattle.world.specs.Network.{world_of}
use Rattle.telling_model.specs.Placed.{placed_events}
use Rattle.telling_model.specs.Tale.{told}
use Rattle.lab_io.specs.Puts.{StaysWithin}
use Rattle.network_run.specs.Coming.{IsReady}
use Rattle.network_run.specs.Telling.{meter_behind}
use Rattle.network_run.proofs.ticks.tick_all.Given as goal

abbrev pub ghost-step : goal.ghost-step
ghost-step g a = a.context.now.names.now

abbrev pub invariant-loop-index : goal.invariant-loop-index
invariant-loop-index g l = record {
  world : world_of g.C.NodeController.seen l.world l.notes ≡ put_away (world_after l.context.names.now (world_of g.C.NodeController.seen l.fn.world l.fn.notes) (take l.index (tick_of_all (world_of g.C.NodeController.seen l.fn.world l.fn.notes))));
  ready : IsReady g.C.NodeController.seen l.context.names.now l.world l.notes;
  events : (world_of g.C.NodeController.seen l.world l.notes).events ≡ (world_of g.C.NodeController.seen l.fn.world l.fn.notes).events + l.index;
  put : IsPut l.fn.told.writer l.told.writer (g.K.Sink.written l.fn.sink) (g.K.Sink.written l.sink) (told g.T.Teller.tale (g.T.Teller.state l.fn.told.teller) l.context.names.now (world_of g.C.NodeController.seen l.fn.world l.fn.notes) (placed_events l.context.line (take l.index (tick_of_all (world_of g.C.NodeController.seen l.fn.world l.fn.notes))))).octets;
  faults : g.K.Sink.faults l.sink ≡ g.K.Sink.faults l.fn.sink;
  knows : g.T.Teller.state l.told.teller ≡ (told g.T.Teller.tale (g.T.Teller.state l.fn.told.teller) l.context.names.now (world_of g.C.NodeController.seen l.fn.world l.fn.notes) (placed_events l.context.line (take l.index (tick_of_all (world_of g.C.NodeController.seen l.fn.world l.fn.notes))))).state;
  room : StaysWithin l.fn.told.writer l.told.writer;
  meter : l.meter ≡ meter_behind l.fn.meter l.context.names.now (world_of g.C.NodeController.seen l.fn.world l.fn.notes) (take l.index (tick_of_all (world_of g.C.NodeController.seen l.fn.world l.fn.notes)));
}
