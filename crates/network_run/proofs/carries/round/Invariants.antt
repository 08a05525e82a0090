use Rattle.std.proofs.Common.{◌≡◌, ◌+◌, ◌-◌, ◌≤◌, length}
use Rattle.world_model.specs.Run.{round}
use Rattle.world.specs.Network.{world_of}
use Rattle.lab_io.specs.Puts.{StaysWithin}
use Rattle.network_run.specs.Coming.{IsReady}
use Rattle.network_run.proofs.Passed.{IsAt}
use Rattle.network_run.proofs.carries.round.Given as goal

abbrev pub ghost-next_waiting : goal.ghost-next_waiting
ghost-next_waiting g a = g.topology

abbrev pub ghost-pass_over : goal.ghost-pass_over
ghost-pass_over g a = g.topology

abbrev pub ghost-step : goal.ghost-step
ghost-step g a = g.topology

abbrev pub invariant-loop-found : goal.invariant-loop-found
invariant-loop-found g l = record {
  at : IsAt g.T.Teller.tale (g.T.Teller.state l.fn.told.teller) l.context.line g.topology (world_of g.C.NodeController.seen l.fn.world l.fn.notes) l.fn.meter l.fn.told.writer (g.K.Sink.written l.fn.sink) l.from
      (world_of g.C.NodeController.seen l.world l.notes) (g.T.Teller.state l.told.teller) l.meter l.told.writer (g.K.Sink.written l.sink);
  ready : IsReady g.C.NodeController.seen g.topology l.world l.notes;
  events : (world_of g.C.NodeController.seen l.world l.notes).events ≡ (world_of g.C.NodeController.seen l.fn.world l.fn.notes).events + l.from;
  within : l.from ≤ length (round (world_of g.C.NodeController.seen l.fn.world l.fn.notes));
  faults : g.K.Sink.faults l.sink ≡ g.K.Sink.faults l.fn.sink;
  room : StaysWithin l.fn.told.writer l.told.writer;
}

abbrev pub decreases-loop-found : goal.decreases-loop-found
decreases-loop-found g l = l.places - l.from
