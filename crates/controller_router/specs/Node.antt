-- A router as its calls show it: plain data, and the controller that it is

use Rattle.std.specs.Prelude.{◌≡◌, ℕ, ◌<◌, ◌≤◌, ◌==◌, false, List, map, length, slice_index_or, Option, Some, None}
use Rattle.std.specs.List.{list_any}
use Rattle.net_types.specs.declared.prefix.Addr.{Addr}
use Rattle.net_types.specs.declared.node.NodeId.{NodeId}
use Rattle.net_types.specs.declared.node.PortNo.{PortNo}
use Rattle.net_types.specs.Number.{GivenOut}
use Rattle.link_model.specs.Notes.{Journal}
use Rattle.crossbar_model.specs.Channels.{ArePorts}
use Rattle.keyed_lists.specs.Keyed.{at}
use Rattle.controller_link.specs.Cells.{ControlCells, ranges_of}
use Rattle.world_model.specs.controller_model.declared.range.PortRange.{PortRange}
use Rattle.world_model.specs.Controller.{Acted, Controller, Linked}
use Rattle.controller_routes.specs.Routes.{Routes}
use Rattle.controller_gsmp.specs.Client as client
use Rattle.controller_gsmp.specs.Client.{Client, PortEnd, Router, end_key, end_port}

-- a router with its client: the node and its address, its routes, the engines of its linked ports, ascending
pub record Node (E : Type 0) : Type 0 where
  pub node : NodeId
  pub address : Addr
  pub routes : Routes
  pub links : List E
  pub client : Client

-- *The controller* that it is, where an engine is seen as a port
abbrev pub router_of : {E : Type 0} → (E → PortEnd) → Node E → Router
router_of seen n = record {
  node = n.node;
  address = n.address;
  table = n.routes.table;
  waiting = n.routes.waiting;
  is_begun = n.routes.is_begun;
  changes = n.routes.changes;
  ports = map seen n.links;
}

abbrev pub controller_of : {E : Type 0} → (E → PortEnd) → Node E → Controller
controller_of seen n = client.controller_of (router_of seen n) n.client

-- and in a run
abbrev pub acted : {E : Type 0} → (E → PortEnd) → Node E → Journal → GivenOut → Acted
acted seen n notes numbers = client.acted (router_of seen n) n.client notes numbers

-- *The ports*: they are of links, ascending, none twice, and each has its part of the region with the range of its
-- labels
abbrev pub range_of : PortEnd → PortRange
range_of end = record { port = end.setup.port; lo = end.setup.least; hi = end.setup.greatest }

abbrev pub ports_of : List PortEnd → List PortNo
ports_of ends = map end_port ends

abbrev pub ports_in : {E : Type 0} → (E → PortEnd) → Node E → List PortNo
ports_in seen n = ports_of (map seen n.links)

pub record AreLinked (ends : List PortEnd) (control : ControlCells) : Type 0 where
  pub ports : ArePorts (ports_of ends)
  pub ranges : ranges_of control ≡ map range_of ends

-- the ranges of the labels of the controller's ports
abbrev pub linked_range : Linked → PortRange
linked_range linked = record { port = linked.setup.port; lo = linked.setup.least; hi = linked.setup.greatest }

abbrev pub ranges_in : {E : Type 0} → (E → PortEnd) → Node E → List PortRange
ranges_in seen n = map linked_range (controller_of seen n).ports

-- the engine of a port
abbrev pub end_at : {E : Type 0} → (E → PortEnd) → Node E → PortNo → Option PortEnd
end_at seen n port = at end_key port.0 (map seen n.links)

abbrev pub end_of : Linked → PortEnd
end_of linked = record { setup = linked.setup; port = linked.port }

-- *How the code finds a port*: it stands at place k
pub record IsPlaceOf (ports : List PortNo) (port : PortNo) (k : ℕ) : Type 0 where
  pub within : k < length ports
  pub here : (d : PortNo) → (slice_index_or ports k d).0 ≡ port.0

abbrev pub IsNowhere : List PortNo → PortNo → Type 0
IsNowhere ports port = list_any (λ p. p.0 == port.0) ports ≡ false

-- the places are kept by the numbers of the ports
pub record ArePlaces (ports : List PortNo) (places : List (Option ℕ)) : Type 0 where
  pub some : (port : PortNo) (k : ℕ) (d : Option ℕ) → port.0 ≤ 8 → slice_index_or places port.0 d ≡ Some k → IsPlaceOf ports port k
  pub none : (port : PortNo) (d : Option ℕ) → port.0 ≤ 8 → slice_index_or places port.0 d ≡ None → IsNowhere ports port
