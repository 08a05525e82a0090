use Rattle.std.proofs.Common.{◌≡◌, ◌∷◌, map, take}
use Rattle.world_model.specs.Switch.{begun, control_port}
use Rattle.gsmp_switch.proofs.ports.opened_ports.Given as goal

abbrev pub invariant-loop-port : goal.invariant-loop-port
invariant-loop-port l = l.states.items ≡ map (begun l.fn.own) (control_port ∷ take l.port-index l.ports)
