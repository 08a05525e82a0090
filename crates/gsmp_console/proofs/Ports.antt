-- A control link without ports

use Rattle.std.proofs.Common.{◌≡◌, List, [], ◌∷◌, map, refl}
use Rattle.controller_link.specs.Cells.{PortCells}

pub no_ports : (ports : List PortCells) → map (λ port. port.range) ports ≡ [] → ports ≡ []
no_ports [] none = refl
no_ports (port ∷ ports) none = absurd cc
