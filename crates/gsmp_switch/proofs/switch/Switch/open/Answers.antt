use Rattle.std.proofs.Common.{ap}
use Rattle.gsmp_switch.specs.Exchange.{Store}
use Rattle.gsmp_switch.proofs.PortStates.{states_opened}
use Rattle.gsmp_switch.proofs.switch.Switch.open.Goals as goal

pub invariant_of-result : goal.invariant_of-result
invariant_of-result c = rw (c.in_ok-states.ensures, ap (λ (x : Store). x.ports) c.in_ok-open.ensures) (states_opened _ c.args.ports.now c.requires.ports)
