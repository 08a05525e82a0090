-- The table that a controller holds, and the changes that wait, as plain data

use Rattle.std.specs.Prelude.{◌≡◌, ℕ, Bool, ◌+◌, ◌<◌, ◌^◌, List, [], ◌∷◌, length, None, if◌then◌else◌, true}
use Rattle.net_types.specs.declared.prefix.Addr.{Addr}
use Rattle.ipv4_forward.specs.Change.{change_fault, changed}
use Rattle.ipv4_forward.specs.declared.change.RouteChange.{RouteChange}
use Rattle.ipv4_forward.specs.declared.table.Route.{Route}
use Rattle.world_model.specs.Routes.{stays_in}

-- the table held, the changes that wait in order, whether the first of them is begun, and how many were taken
pub record Routes : Type 0 where
  pub table : List Route
  pub waiting : List RouteChange
  pub is_begun : Bool
  pub changes : ℕ

-- a table takes these changes, one after the other
abbrev pub Takes : List Route → List RouteChange → Type 0
Takes table [] = Unit {0}
Takes table (change ∷ later) = (change_fault table change ≡ None) × Takes (changed table change) later

-- what is known of them: the table takes all that wait, and they can be counted
pub record AreSound (routes : Routes) : Type 0 where
  pub takes : Takes routes.table routes.waiting
  pub counted : routes.changes + length routes.waiting < 2 ^ 32

-- while no change is begun, every route stays
abbrev pub stays : Routes → Addr → Bool
stays routes destination = if routes.is_begun then stays_in routes.table routes.waiting destination else true
