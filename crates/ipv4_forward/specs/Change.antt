-- A change of one route of a table

use Rattle.std.specs.Prelude.{not, nat_lt, List, [], ◌∷◌, ◌++◌, length, map, filter, Option, None, Some, if◌then◌else◌}
use Rattle.net_types.specs.Prefix.{Network}
use Rattle.ipv4_forward.specs.declared.table.Next.{Next}
use Rattle.ipv4_forward.specs.declared.table.Route.{Route}
use Rattle.ipv4_forward.specs.declared.change.RouteChange.{RouteChange}
use Rattle.ipv4_forward.specs.declared.change.ChangeFault.{ChangeFault}
use Rattle.ipv4_forward.specs.declared.change.ChangeFault.TheVariants.{TableFull, NoPrefix}
use Rattle.ipv4_forward.specs.Best.{is_same, has_prefix}

-- a prefix that is there gets the new next, another is added at the end; without a next the prefix goes
abbrev pub renewed : Network → Next → Route → Route
renewed prefix next route = if is_same route.prefix prefix then record route { next = next } else route

abbrev pub changed_by : List Route → Network → Option Next → List Route
changed_by routes prefix None = filter (λ (route : Route). not (is_same route.prefix prefix)) routes
changed_by routes prefix (Some next) =
    if has_prefix routes prefix
    then map (renewed prefix next) routes
    else routes ++ record { prefix = prefix; next = next } ∷ []

abbrev pub changed : List Route → RouteChange → List Route
changed routes change = changed_by routes change.prefix change.next

-- why a change can't be made, if it can't
abbrev pub change_fault_by : List Route → Network → Option Next → Option ChangeFault
change_fault_by routes prefix None = if has_prefix routes prefix then None else Some NoPrefix
change_fault_by routes prefix (Some next) =
    if has_prefix routes prefix then None else (if nat_lt (length routes) 256 then None else Some TableFull)

abbrev pub change_fault : List Route → RouteChange → Option ChangeFault
change_fault routes change = change_fault_by routes change.prefix change.next
