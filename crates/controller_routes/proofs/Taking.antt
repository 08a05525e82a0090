-- A change more that a table takes behind others.

use Rattle.std.proofs.Common.{◌≡◌, List, [], ◌∷◌, ◌++◌, None, fold}
use Rattle.ipv4_forward.specs.Change.{change_fault, changed}
use Rattle.ipv4_forward.specs.declared.change.RouteChange.{RouteChange}
use Rattle.ipv4_forward.specs.declared.table.Route.{Route}
use Rattle.controller_routes.specs.Routes.{Takes}

pub takes_more : (table : List Route) (waiting : List RouteChange) (change : RouteChange) → Takes table waiting → change_fault (fold changed table waiting) change ≡ None → Takes table (waiting ++ change ∷ [])
takes_more table [] change takes accepted = (accepted, tt)
takes_more table (first ∷ later) change takes accepted = (takes.0, takes_more (changed table first) later change takes.1 accepted)
