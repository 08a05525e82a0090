use Rattle.std.proofs.Common.{List, ap, map, ◌∙◌}
use Rattle.controller_link.specs.Cells.{PortCells}
use Rattle.gsmp_console.proofs.Ports.{no_ports}
use Rattle.gsmp_console.proofs.console.Console.take_cell.Goals as goal

pub invariant_of-self : goal.invariant_of-self
invariant_of-self c =
    no_ports _ (c.receive.ensures.ranges ∙ ap (λ (ports : List PortCells). map (λ port. port.range) ports) c.self.invariant)
