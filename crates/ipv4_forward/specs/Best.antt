-- The best route of an address: the longest prefix that covers it (RFC 1812 5.2.4.3)

use Rattle.std.specs.Prelude.{Bool, not, ◌&&◌, ◌||◌, ◌==◌, nat_lt, List, length, Option, None, Some, option_map, find, if◌then◌else◌}
use Rattle.std.specs.List.{list_all, list_any}
use Rattle.net_types.specs.declared.prefix.Addr.{Addr}
use Rattle.net_types.specs.Prefix.{Network, covers}
use Rattle.ipv4_forward.specs.declared.table.AddFault.{AddFault}
use Rattle.ipv4_forward.specs.declared.table.AddFault.TheVariants.{Duplicate, TableFull}
use Rattle.ipv4_forward.specs.declared.table.Next.{Next}
use Rattle.ipv4_forward.specs.declared.table.Route.{Route}

abbrev pub is_same : Network → Network → Bool
is_same one other = (one.addr.0 == other.addr.0) && (one.len == other.len)

abbrev pub has_prefix : List Route → Network → Bool
has_prefix routes prefix = list_any (λ (route : Route). is_same route.prefix prefix) routes

-- this route's prefix covers the address, and is longer than every other that covers it
abbrev pub is_best : List Route → Addr → Route → Bool
is_best routes addr route =
    covers route.prefix addr
    && list_all (λ (other : Route). is_same other.prefix route.prefix
    || (not (covers other.prefix addr) || nat_lt other.prefix.len route.prefix.len)) routes

-- where packets for this address go; none where no route covers it
abbrev pub best : List Route → Addr → Option Next
best routes addr = option_map (λ (route : Route). route.next) (find (is_best routes addr) routes)

-- why a route for this prefix can't be added, if it can't
abbrev pub add_fault : List Route → Network → Option AddFault
add_fault routes prefix =
    if has_prefix routes prefix then Some Duplicate
    else if nat_lt (length routes) 256 then None
    else Some TableFull
