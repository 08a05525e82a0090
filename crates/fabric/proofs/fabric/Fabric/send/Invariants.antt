use Rattle.std.proofs.Common.{◌≡◌, ◌+◌, ◌≤◌, length, take}
use Rattle.crossbar_model.specs.Crossbar.{sent}
use Rattle.fabric.specs.Fabric.{crossbar, free_slots, QueuesChange}
use Rattle.fabric.proofs.fabric.Fabric.send.Given as goal

abbrev pub invariant-loop-cell : goal.invariant-loop-cell
invariant-loop-cell l = record {
  room : length l.cells ≤ free_slots l.self + l.cell-index;
  sent : crossbar l.self ≡ sent (crossbar l.initial.self) l.port (take l.cell-index l.cells);
  queues : QueuesChange l.initial.self l.self;
}
