-- What is so of each node in every run, forged frames or not

use Rattle.std.specs.Prelude.{◌≡◌, ◌*◌, ◌≤◌, true, List, ◌∷◌, length, map, Contains, Some}
use Rattle.law_world_pace.specs.world_model.Words.{NodeId, PortNo, Place, HasNumbersLeft, Cell, RouteChange, IsLinkPort, ArePorts, control_port, numbers_of, Policy, Setup, Controller, Linked, linked_at, setup_of, Topology, Node, node_at, ranges_of, timers_of, is_linked, IsNode, IsLinkedNext, IsLinkedChange, World, Site, site_at, queue_at, Past, past_of, IsRun}
use Rattle.law_world_pace.specs.world_model.ipv4_forward.declared.table.Route.{Route}
use Rattle.law_controller_bindings.specs.ordered_lists.Ordered.{Every}
use Rattle.law_controller_bindings.specs.law_port_facts.Port.{IsRanged}
use Rattle.law_world_views.specs.law_port_widths.Widths.{FitsSetup}
use Rattle.law_world_pace.specs.world_model.Controller.{ports_of}
use Rattle.law_controller_bindings.specs.law_controller_facts.Sound.{IsSound}
use Rattle.law_controller_bindings.specs.law_controller_facts.Said.{HasFlowingPorts}
use Rattle.law_controller_bindings.specs.law_controller_facts.Conditions.{HasGrantedJoins, HasMovingRequests}
use Rattle.law_controller_bindings.specs.law_controller.Order.{IsOrderly}
use Rattle.law_controller_bindings.specs.law_controller.Match.{IsMatched}
use Rattle.law_controller_bindings.specs.Bindings.{HasBoundLabels, HasLedJoins, GathersForBound}
use Rattle.law_world_pace.specs.world_model.network_model.declared.event.Event.{Event}
use Rattle.law_world_pace.specs.world_model.Topology as topologies
use Rattle.law_world_views.specs.Shown.{acting}
use Rattle.law_world_views.specs.Between.{EachSite, setups_of}
use Rattle.law_world_views.specs.Fronts.{HasAddresses}

-- *The node* is one of the topology: its number, its address, and the ports of its links with what stays the same of them
pub record IsNodeOf (policy : Policy) (topology : Topology) (node : NodeId) (site : Site) : Type 0 where
  pub number : IsNode topology node
  pub few : node.0 ≤ 64
  pub own : site.controller.node ≡ node
  pub there : Node
  pub is : node_at topology node ≡ Some there
  pub address : site.controller.address ≡ there.address
  pub setups : setups_of site.controller ≡ map (setup_of node there.address (timers_of topology) policy) (ranges_of topology node there)
  pub ports : ports_of site.controller ≡ topologies.linked_ports topology node
  pub switch_ports : numbers_of site.switch.ports ≡ control_port ∷ ports_of site.controller
  pub queues : length site.switch.crossbar.queues ≡ 9

pub record HasPort (c : Controller) (port : PortNo) : Type 0 where
  pub linked : Linked
  pub is : linked_at c port ≡ Some linked

-- *Its ports* are of links: at most 8, ascending, from 1 to 8; each has a range of labels, and numbers that fit. They are
-- those that a link names
pub record HasLinkPorts (topology : Topology) (node : NodeId) (c : Controller) : Type 0 where
  pub few : length (setups_of c) ≤ 8
  pub links : Every (λ (setup : Setup). IsLinkPort setup.port) (setups_of c)
  pub ascending : ArePorts (ports_of c)
  pub ranged : Every IsRanged (setups_of c)
  pub fits : Every FitsSetup (setups_of c)
  pub linked : (port : PortNo) (linked : Linked) → linked_at c port ≡ Some linked → is_linked topology node port ≡ true
  pub found : (port : PortNo) → is_linked topology node port ≡ true → HasPort c port

-- *Its controller*: what holds of a controller whatever comes, and what its labels, joins and chains stand for by the records
-- of the run. Its routes, and the changes that wait, lead to linked ports
pub record IsConducted (past : Past) (node : NodeId) (site : Site) : Type 0 where
  pub sound : IsSound (setups_of site.controller) site.controller
  pub flows : HasFlowingPorts (setups_of site.controller) site.controller
  pub granted : HasGrantedJoins (setups_of site.controller) site.controller
  pub moving : HasMovingRequests (setups_of site.controller) site.controller
  pub order : IsOrderly site.controller
  pub matched : IsMatched site.controller.ports site.controller.desk
  pub bound : HasBoundLabels node past.records (acting past.now site)
  pub led : HasLedJoins node past.records (acting past.now site)
  pub gathers : GathersForBound node past.records (acting past.now site)
  pub routes : Every (λ (route : Route). IsLinkedNext past.topology node route.next) site.controller.table
  pub waiting : Every (λ (change : RouteChange). IsLinkedChange past.topology node change.next) site.controller.waiting

pub record IsNodeOfRun (policy : Policy) (past : Past) (node : NodeId) (site : Site) : Type 0 where
  pub is_node : IsNodeOf policy past.topology node site
  pub ports : HasLinkPorts past.topology node site.controller
  pub conduct : IsConducted past node site

abbrev pub RunsHaveNodes : Type 0
RunsHaveNodes = (policy : Policy) (topology : Topology) (events : List Event) → HasAddresses topology → IsRun policy topology events
    → EachSite (past_of policy topology events).now (IsNodeOfRun policy (past_of policy topology events))

-- *All nodes* of the topology are there
pub record HasSite (w : World) (node : NodeId) : Type 0 where
  pub site : Site
  pub is : site_at w node ≡ Some site

abbrev pub RunsKeepNodes : Type 0
RunsKeepNodes = (policy : Policy) (topology : Topology) (events : List Event) → IsRun policy topology events
    → (node : NodeId) → IsNode topology node → HasSite (past_of policy topology events).now node

-- *Numbers* are left: instances and control marks for the next event, and frames of packets have small numbers
pub record HasRoom (w : World) : Type 0 where
  pub left : HasNumbersLeft w.numbers
  pub frames : (place : Place) (cell : Cell) → Contains (queue_at w place) cell → cell.mark.frame ≤ 1000000 * w.events
  pub sent : w.sent ≤ w.events

abbrev pub RunsHaveRoom : Type 0
RunsHaveRoom = (policy : Policy) (topology : Topology) (events : List Event) → IsRun policy topology events
    → HasRoom (past_of policy topology events).now
