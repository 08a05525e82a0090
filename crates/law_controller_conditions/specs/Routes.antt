-- The routes that a controller holds, and the changes that wait, lead to ports of links

use Rattle.std.specs.Prelude.{◌≡◌, ℕ, List, Option, None, Some}
use Rattle.law_controller.specs.world_model.Words.{hop_of, RouteChange, On, Next, Local, Via, PortNo, IsLinkPort, Controller}
use Rattle.law_controller.specs.world_model.ipv4_forward.declared.table.Route.{Route}
use Rattle.law_controller.specs.ordered_lists.Ordered.{Every}
use Rattle.law_controller.specs.world_model.Controller.{Acted}
use Rattle.law_controller.specs.law_controller_facts.Inputs.{Input, ChangeComes, takes_input}
use Rattle.law_controller.specs.law_controller_facts.Sound.{Opening, opened_by}

abbrev pub LeadsToLink : Next → Type 0
LeadsToLink Local = Unit {0}
LeadsToLink (Via port) = IsLinkPort port

abbrev pub IsLinkRoute : Route → Type 0
IsLinkRoute route = LeadsToLink route.next

abbrev pub MayLead : Option Next → Type 0
MayLead None = Unit {0}
MayLead (Some next) = LeadsToLink next

abbrev pub IsLinkChange : RouteChange → Type 0
IsLinkChange change = MayLead change.next

pub record HasLinkRoutes (c : Controller) : Type 0 where
  pub table : Every IsLinkRoute c.table
  pub waiting : Every IsLinkChange c.waiting

-- a change that comes does so, too
abbrev pub IsLinkInput : Input → Type 0
IsLinkInput (ChangeComes change) = IsLinkChange change
IsLinkInput input = Unit {0}

-- *From the opening on*, after every input; so a packet goes on by a link
pub record RoutesLeadToLinks : Type 0 where
  pub opens : (o : Opening) → Every IsLinkRoute o.table → HasLinkRoutes (opened_by o).controller
  pub keeps : (a : Acted) (input : Input) → IsLinkInput input → HasLinkRoutes a.controller → HasLinkRoutes (takes_input a input).controller
  pub hops : (c : Controller) (packet : List ℕ) (port : PortNo) → HasLinkRoutes c → hop_of c.table packet ≡ On port → IsLinkPort port
