-- The joins of a controller, as `controller_joins` keeps them

use Rattle.std.specs.Prelude.{◌≢◌, List, [], map}
use Rattle.std.specs.Option.{option_map_or}
use Rattle.net_types.specs.declared.channel.End.{End}
use Rattle.net_types.specs.declared.node.PortNo.{PortNo}
use Rattle.ordered_lists.specs.Ordered.{InOrder}
use Rattle.controller_joins.specs.world_model.Controller.{Controller, Linked, linked_at, ports_of}
use Rattle.controller_joins.specs.world_model.Joins.{inputs_at, joins_at, joins_of}
use Rattle.controller_joins.specs.Joined.{joined_of}
use Rattle.controller_joins.specs.declared.places.Joined.{Joined}

-- all, in the order of their inputs
abbrev pub joined_in : Controller → List Joined
joined_in c = map joined_of (joins_of c)

-- those to the grants of one port
abbrev pub joined_at : Linked → List Joined
joined_at linked = map joined_of (joins_at linked)

-- no two ports have one number
abbrev pub Differ : PortNo → PortNo → Type 0
Differ p q = p.0 ≢ q.0

abbrev pub HaveNumbers : Controller → Type 0
HaveNumbers c = InOrder Differ (ports_of c)

-- the inputs of the labels that a port holds
abbrev pub inputs_on : Controller → PortNo → List End
inputs_on c port = option_map_or inputs_at (linked_at c port) []
