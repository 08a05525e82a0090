-- A client of GSMP as plain data, and the controllers that have it

use Rattle.std.specs.Prelude.{◌≡◌, ℕ, Bool, List, [], ◌∷◌, map}
use Rattle.net_types.specs.declared.prefix.Addr.{Addr}
use Rattle.net_types.specs.declared.node.NodeId.{NodeId}
use Rattle.net_types.specs.declared.node.PortNo.{PortNo}
use Rattle.net_types.specs.declared.adjacency.Party.{Party}
use Rattle.net_types.specs.Number.{GivenOut}
use Rattle.ipv4_forward.specs.declared.table.Route.{Route}
use Rattle.ipv4_forward.specs.declared.change.RouteChange.{RouteChange}
use Rattle.adjacency_table.specs.Side.{Side}
use Rattle.link_model.specs.Notes.{Journal}
use Rattle.world_model.specs.port_model.Desk.{Desk}
use Rattle.world_model.specs.port_model.Setup.{Setup}
use Rattle.world_model.specs.port_model.Port.{Port}
use Rattle.controller_link.specs.Cells.{ControlCells, PortCells, ranges_of}
use Rattle.world_model.specs.Controller.{Acted, Controller, Linked}

-- its side of the adjacency with the switch, the requests that stand, whether the switch is met, and what the
-- region of its control link holds
pub record Client : Type 0 where
  pub adjacency : Side Party
  pub desk : Desk
  pub has_met : Bool
  pub control : ControlCells

-- *The router beside it*: the node and its address; the table held, the changes of routes that wait, whether the
-- first of them is begun, and how many were taken; the linked ports, each by what stays the same of it and by
-- the port itself
pub record PortEnd : Type 0 where
  pub setup : Setup
  pub port : Port

pub record Router : Type 0 where
  pub node : NodeId
  pub address : Addr
  pub table : List Route
  pub waiting : List RouteChange
  pub is_begun : Bool
  pub changes : ℕ
  pub ports : List PortEnd

abbrev pub end_port : PortEnd → PortNo
end_port end = end.setup.port

abbrev pub end_key : PortEnd → ℕ
end_key end = end.setup.port.0

-- *The controller* that the two are; a linked port has its part of the region
abbrev pub linked_of : PortEnd → PortCells → Linked
linked_of end cells = record {
  setup = end.setup;
  port = end.port;
  reassembly = cells.reassembly;
  chains = cells.chains;
}

abbrev pub linked_ports : List PortEnd → List PortCells → List Linked
linked_ports [] ports = []
linked_ports (end ∷ ends) [] = []
linked_ports (end ∷ ends) (cells ∷ ports) = linked_of end cells ∷ linked_ports ends ports

abbrev pub controller_of : Router → Client → Controller
controller_of r x = record {
  node = r.node;
  address = r.address;
  cells = x.control.cells;
  table = r.table;
  waiting = r.waiting;
  is_begun = r.is_begun;
  changes = r.changes;
  adjacency = x.adjacency;
  desk = x.desk;
  has_met = x.has_met;
  reassembly = x.control.reassembly;
  ports = linked_ports r.ports x.control.ports;
  queue = x.control.queue;
}

-- and in a run
abbrev pub acted : Router → Client → Journal → GivenOut → Acted
acted r x notes numbers = record { controller = controller_of r x; notes = notes; numbers = numbers }

-- each port of the router has its part of the region
pub record AreOneNode (r : Router) (x : Client) : Type 0 where
  pub ports : map (λ range. range.port) (ranges_of x.control) ≡ map end_port r.ports
