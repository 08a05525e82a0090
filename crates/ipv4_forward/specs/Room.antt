-- what a table keeps true of its vector

use Rattle.std.specs.Prelude.{◌≡◌, ◌≤◌, ℕ, false, List, length, take, slice_get, Some, vec_capacity}
use Rattle.ipv4_forward.specs.declared.table.Route.{Route}
use Rattle.ipv4_forward.specs.declared.table.Table.TheInside.{Inside}
use Rattle.ipv4_forward.specs.Best.{has_prefix}

-- no route has the prefix of an earlier one
abbrev pub AreDistinct : List Route → Type 0
AreDistinct routes =
    (place : ℕ) (route : Route) → slice_get routes place ≡ Some route → has_prefix (take place routes) route.prefix ≡ false

pub record HasRoom (table : Inside) : Type 0 where
  pub room : 256 ≤ vec_capacity table.routes
  pub within : length table.routes.items ≤ 256
  pub distinct : AreDistinct table.routes.items
