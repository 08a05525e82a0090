use Rattle.std.proofs.Common.{◌≡◌, ◌++◌, map, take, drop, length}
use Rattle.world_model.specs.Switch.{begun}
use Rattle.gsmp_switch.proofs.ports.begin.Given as goal

abbrev pub invariant-loop-place : goal.invariant-loop-place
invariant-loop-place l = record {
  done : take l.place l.ports.items ++ map (λ state. begun l.fn.own state.number) (drop l.place l.ports.items) ≡ map (λ state. begun l.fn.own state.number) l.fn.ports.items;
  same_length : length l.ports.items ≡ length l.fn.ports.items;
}
