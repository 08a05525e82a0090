-- A router that joins labels, as its calls show it: a router, and the list of its joins

use Rattle.std.specs.Prelude.{◌≡◌, List}
use Rattle.net_types.specs.Number.{GivenOut}
use Rattle.link_model.specs.Notes.{Journal}
use Rattle.controller_joins.specs.world_model.Controller.{Acted, Controller}
use Rattle.controller_gsmp.specs.Client.{PortEnd}
use Rattle.controller_joins.specs.declared.places.Joined.{Joined}
use Rattle.law_join_facts.specs.Joins.{joined_in}
use Rattle.controller_router.specs.Node as node
use Rattle.controller_router.specs.Node.{Node}

pub record Joining (E : Type 0) : Type 0 where
  pub router : Node E
  pub joins : List Joined

-- the controller that it is, in a run
abbrev pub controller_of : {E : Type 0} → (E → PortEnd) → Joining E → Controller
controller_of seen j = node.controller_of seen j.router

abbrev pub acted : {E : Type 0} → (E → PortEnd) → Joining E → Journal → GivenOut → Acted
acted seen j notes numbers = node.acted seen j.router notes numbers

-- *The list is that of the controller's joins*: of its grants that are lent to inputs, in the order of these
abbrev pub AreJoined : {E : Type 0} → (E → PortEnd) → Joining E → Type 0
AreJoined seen j = joined_in (controller_of seen j) ≡ j.joins
