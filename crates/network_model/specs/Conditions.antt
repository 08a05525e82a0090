-- Which topologies lines can make, and which events can come to a world

use Rattle.std.specs.Prelude.{◌≡◌, ℕ, ◌+◌, ◌^◌, ◌≤◌, ◌<◌, ◌==◌, true, false, List, length, All, fold, slice_get, slice_index, Option, None, Some}
use Rattle.net_types.specs.declared.node.NodeId.{NodeId}
use Rattle.net_types.specs.declared.node.PortNo.{PortNo}
use Rattle.net_types.specs.declared.node.Place.{Place}
use Rattle.net_types.specs.declared.node.Place.TheVariants.{Down, Up, Out}
use Rattle.net_types.specs.declared.channel.Channel.{Channel}
use Rattle.net_types.specs.Label.{is_label_number}
use Rattle.ipv4_forward.specs.Change.{changed, change_fault}
use Rattle.ipv4_forward.specs.Room.{AreDistinct}
use Rattle.ipv4_forward.specs.declared.change.RouteChange.{RouteChange}
use Rattle.ipv4_forward.specs.declared.table.Next.{Next}
use Rattle.ipv4_forward.specs.declared.table.Next.TheVariants.{Local, Via}
use Rattle.ipv4_forward.specs.declared.table.Route.{Route}
use Rattle.controller_model.specs.Controller.{Controller}
use Rattle.controller_model.specs.declared.range.PortRange.{PortRange}
use Rattle.network_model.specs.declared.event.Event.{Event}
use Rattle.network_model.specs.declared.event.Event.TheVariants.{Inject, Carry, Lose, Tick, TickSwitch, Restart, RestartSwitch, Forge, Route as RouteEvent}
use Rattle.network_model.specs.declared.line.TopologyLine.{TopologyLine}
use Rattle.network_model.specs.declared.line.TopologyLine.TheVariants as lines
use Rattle.network_model.specs.Limits.{greatest_nodes, greatest_links, greatest_routes, greatest_cells, greatest_time, greatest_packets, greatest_window, greatest_payload, event_limit}
use Rattle.network_model.specs.Topology.{Topology, Node, Link, PolicyLine, Xy, Never, Times, peer_of}
use Rattle.network_model.specs.Lines.{node_named, is_linked}
use Rattle.network_model.specs.World.{World, controller_at}

-- a number from least to greatest
abbrev pub IsWithin : (least greatest : ℕ) → ℕ → Type 0
IsWithin least greatest n = (least ≤ n) × (n ≤ greatest)

abbrev pub IsPort : PortNo → Type 0
IsPort port = IsWithin 1 8 port.0

-- the node is one of the topology's
abbrev pub IsNode : Topology → NodeId → Type 0
IsNode topology node = IsWithin 1 (length topology.nodes) node.0

-- *Links*: the two ends are ports of two nodes, and each is the other's other end: no port has two links
pub record IsLink (topology : Topology) (link : Link) : Type 0 where
  pub first : IsNode topology link.first.node × IsPort link.first.port
  pub second : IsNode topology link.second.node × IsPort link.second.port
  pub apart : (link.first.node.0 == link.second.node.0) ≡ false
  pub there : peer_of topology link.first.node link.first.port ≡ Some link.second
  pub back : peer_of topology link.second.node link.second.port ≡ Some link.first

-- *Nodes*: each port that a route names is linked
abbrev pub IsLinkedNext : Topology → NodeId → Next → Type 0
IsLinkedNext topology node Local = Unit {0}
IsLinkedNext topology node (Via port) = is_linked topology node port ≡ true

pub record IsRange (range : PortRange) : Type 0 where
  pub port : IsPort range.port
  pub least : is_label_number range.lo ≡ true
  pub greatest : is_label_number range.hi ≡ true
  pub ascends : range.lo ≤ range.hi

pub record IsNodeOf (topology : Topology) (number : NodeId) (node : Node) : Type 0 where
  pub named : node_named topology node.name ≡ Some number
  pub cells : IsWithin 1 greatest_cells node.cells
  pub ranges : All IsRange node.ranges
  pub room : length node.routes ≤ greatest_routes
  pub distinct : AreDistinct node.routes
  pub linked : All (λ (route : Route). IsLinkedNext topology number route.next) node.routes

-- *The whole*
abbrev pub ArePolicyNumbers : PolicyLine → Type 0
ArePolicyNumbers (Xy x y) = IsWithin 1 greatest_packets x × IsWithin 1 greatest_window y
ArePolicyNumbers Never = Unit {0}

abbrev pub AreTimes : Times → Type 0
AreTimes times =
    IsWithin 1 greatest_time times.lifetime × IsWithin 1 greatest_time times.refresh × IsWithin 1 greatest_time times.idle

-- what is so of every topology that lines make; that each node is found by its name says that no two have one name
pub record IsTopology (topology : Topology) : Type 0 where
  pub few_nodes : length topology.nodes ≤ greatest_nodes
  pub few_links : length topology.links ≤ greatest_links
  pub links : All (IsLink topology) topology.links
  pub nodes : (place : ℕ) (node : Node) → slice_get topology.nodes place ≡ Some node
      → IsNodeOf topology (record { 0 = place + 1 }) node
  pub policy : ArePolicyNumbers topology.policy
  pub times : AreTimes topology.times
  pub version : IsWithin 1 2 topology.version

-- the numbers of a line are within the limits that its words have
abbrev pub HasItsNumbers : TopologyLine → Type 0
HasItsNumbers (lines.Node name address) = Unit {0}
HasItsNumbers (lines.Cells name cells) = IsWithin 1 greatest_cells cells
HasItsNumbers (lines.Labels name port lo hi) = IsRange (record { port = port; lo = lo; hi = hi })
HasItsNumbers (lines.Link first second) = IsPort first.1 × IsPort second.1
HasItsNumbers (lines.RouteVia name prefix port) = IsPort port
HasItsNumbers (lines.RouteLocal name prefix) = Unit {0}
HasItsNumbers (lines.PolicyXy x y) = ArePolicyNumbers (Xy x y)
HasItsNumbers lines.PolicyNever = Unit {0}
HasItsNumbers (lines.Timers lifetime refresh idle) =
    AreTimes (record { lifetime = lifetime; refresh = refresh; idle = idle })
HasItsNumbers (lines.Version version) = IsWithin 1 2 version

-- *Events*: each is of a node or of a queue of the topology
abbrev pub IsPlace : Topology → Place → Type 0
IsPlace topology (Down node) = IsNode topology node
IsPlace topology (Up node) = IsNode topology node
IsPlace topology (Out node port) = IsNode topology node × (is_linked topology node port ≡ true)

abbrev pub AreOctets : List ℕ → Type 0
AreOctets octets = (place : ℕ) → slice_index octets place < 2 ^ 8

-- the table that a controller will hold once all changes that wait have been taken
abbrev pub table_to_be : Controller → List Route
table_to_be c = fold changed c.table c.waiting

abbrev pub IsAccepted : RouteChange → Option Controller → Type 0
IsAccepted change None = ⊥
IsAccepted change (Some c) = change_fault (table_to_be c) change ≡ None

abbrev pub IsLinkedChange : Topology → NodeId → Option Next → Type 0
IsLinkedChange topology node None = Unit {0}
IsLinkedChange topology node (Some next) = IsLinkedNext topology node next

-- a change of a route is accepted by the node's table after all changes that wait, and names a linked port
pub record IsChange (topology : Topology) (w : World) (node : NodeId) (change : RouteChange) : Type 0 where
  pub there : IsNode topology node
  pub linked : IsLinkedChange topology node change.next
  pub accepted : IsAccepted change (controller_at w node)

-- what is forged can stand in cells: VPI 0 to 255, and 1 to 1,528 octets
pub record IsForgery (topology : Topology) (place : Place) (channel : Channel) (payload : List ℕ) : Type 0 where
  pub queue : IsPlace topology place
  pub vpi : channel.vpi ≤ 255
  pub size : IsWithin 1 greatest_payload (length payload)
  pub octets : AreOctets payload

abbrev pub IsEvent : Topology → World → Event → Type 0
IsEvent topology w (Inject node octets) = IsNode topology node × AreOctets octets
IsEvent topology w (Carry place) = IsPlace topology place
IsEvent topology w (Lose place) = IsPlace topology place
IsEvent topology w (Tick node) = IsNode topology node
IsEvent topology w (TickSwitch node) = IsNode topology node
IsEvent topology w (Restart node) = IsNode topology node
IsEvent topology w (RestartSwitch node) = IsNode topology node
IsEvent topology w (Forge place channel payload) = IsForgery topology place channel payload
IsEvent topology w (RouteEvent node change) = IsChange topology w node change

-- an event can come to a world, while there were fewer than 100,000,000
pub record CanCome (topology : Topology) (w : World) (event : Event) : Type 0 where
  pub few : w.events < event_limit
  pub meant : IsEvent topology w event
