-- The route of a destination before and after a change that is begun. The rule is this project's own.

use Rattle.std.specs.Prelude.{Bool, true, false, not, ◌==◌, List, [], ◌∷◌, Option, None, Some, if◌then◌else◌}
use Rattle.net_types.specs.declared.prefix.Addr.{Addr}
use Rattle.ipv4_forward.specs.Best.{best}
use Rattle.ipv4_forward.specs.Change.{changed}
use Rattle.ipv4_forward.specs.declared.change.RouteChange.{RouteChange}
use Rattle.ipv4_forward.specs.declared.table.Next.{Next}
use Rattle.ipv4_forward.specs.declared.table.Next.TheVariants.{Local, Via}
use Rattle.ipv4_forward.specs.declared.table.Route.{Route}
use Rattle.controller_model.specs.Controller.{Controller}

abbrev pub same_next : Option Next → Option Next → Bool
same_next None None = true
same_next (Some Local) (Some Local) = true
same_next (Some (Via port)) (Some (Via other)) = port.0 == other.0
same_next next other = false

-- the best route is another after the change than before it, whatever the packets' Time To Live
abbrev pub differs : List Route → RouteChange → Addr → Bool
differs table change destination = not (same_next (best table destination) (best (changed table change) destination))

-- the first change that waits is the one that is begun
abbrev pub stays_in : List Route → List RouteChange → Addr → Bool
stays_in table [] destination = true
stays_in table (change ∷ later) destination = not (differs table change destination)

-- while no change is begun, every route stays
abbrev pub route_stays : Controller → Addr → Bool
route_stays c destination = if c.is_begun then stays_in c.table c.waiting destination else true
