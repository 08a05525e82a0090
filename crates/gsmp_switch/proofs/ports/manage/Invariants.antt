use Rattle.std.proofs.Common.{◌≡◌, ◌++◌, take, drop}
use Rattle.world_model.specs.Switch.{state_of_port, with_port}
use Rattle.world_model.specs.Requests.{managed}
use Rattle.gsmp_switch.proofs.ports.manage.Given as goal

abbrev pub invariant-loop-place : goal.invariant-loop-place
invariant-loop-place l = record {
  done : take l.place l.ports.items ++ with_port l.fn.port (managed l.fn.function) (drop l.place l.ports.items) ≡ with_port l.fn.port (managed l.fn.function) l.fn.ports.items;
  found : state_of_port (drop l.place l.ports.items) l.fn.port ≡ state_of_port l.fn.ports.items l.fn.port;
  same : l.ports.items ≡ l.fn.ports.items;
}
