-- what a pass over the routes has found so far

use Rattle.std.specs.Prelude.{◌≡◌, Bool, true, not, ◌||◌, nat_lt, List, Option, None, Some, find}
use Rattle.std.specs.List.{list_all}
use Rattle.net_types.specs.declared.prefix.Addr.{Addr}
use Rattle.net_types.specs.Prefix.{covers}
use Rattle.ipv4_forward.specs.declared.table.Route.{Route}
use Rattle.ipv4_forward.specs.Best.{is_same}

abbrev pub is_below : Addr → Route → Route → Bool
is_below addr route other =
    is_same other.prefix route.prefix || (not (covers other.prefix addr) || nat_lt other.prefix.len route.prefix.len)

pub record IsFound (routes : List Route) (addr : Addr) (route : Route) : Type 0 where
  pub covering : covers route.prefix addr ≡ true
  pub longest : list_all (is_below addr route) routes ≡ true
  pub among : find (λ (other : Route). is_same other.prefix route.prefix) routes ≡ Some route

abbrev pub IsLongest : List Route → Addr → Option Route → Type 0
IsLongest routes addr None = list_all (λ (route : Route). not (covers route.prefix addr)) routes ≡ true
IsLongest routes addr (Some route) = IsFound routes addr route
