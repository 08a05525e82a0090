-- The topology of a network: its nodes in order, and the links between their ports

use Rattle.std.specs.Prelude.{ℕ, zero, suc, Bool, false, ◌==◌, ◌&&◌, nat_le, List, [], ◌∷◌, map, filter, find, reverse, slice_get, is_some, Option, None, Some, if◌then◌else◌}
use Rattle.std.specs.List.{range_with_len}
use Rattle.std.specs.Option.{option_map_or, option_or}
use Rattle.net_types.specs.declared.prefix.Addr.{Addr}
use Rattle.net_types.specs.declared.node.NodeId.{NodeId}
use Rattle.net_types.specs.declared.node.PortNo.{PortNo}
use Rattle.ipv4_forward.specs.declared.table.Route.{Route}
use Rattle.controller_model.specs.port_model.declared.timers.Timers.{Timers}
use Rattle.controller_model.specs.port_model.Setup.{Policy}
use Rattle.controller_model.specs.declared.range.PortRange.{PortRange}
use Rattle.network_model.specs.declared.link.LinkEnd.{LinkEnd}

-- a node's name, its address, the slots of each of its two regions, the ranges of labels that were given to
-- its ports, its routes
pub record Node : Type 0 where
  pub name : List ℕ
  pub address : Addr
  pub cells : ℕ
  pub ranges : List PortRange
  pub routes : List Route

pub record Link : Type 0 where
  pub first : LinkEnd
  pub second : LinkEnd

-- a flow is offered a label from x packets in y ticks on, or no flow is
pub data PolicyLine : Type 0 where
  Xy : (x y : ℕ) → PolicyLine
  Never : PolicyLine

-- for how long a REDIRECT holds, after how long it is sent again, and for how long a label may be idle
pub record Times : Type 0 where
  pub lifetime : ℕ
  pub refresh : ℕ
  pub idle : ℕ

-- the nodes and the links in the order of their lines, the policy, the times, and the version; in version 2
-- labels have a VPI
pub record Topology : Type 0 where
  pub nodes : List Node
  pub links : List Link
  pub policy : PolicyLine
  pub times : Times
  pub version : ℕ

abbrev pub empty_topology : Topology
empty_topology = record {
  nodes = [];
  links = [];
  policy = Xy 4 10;
  times = record { lifetime = 60; refresh = 20; idle = 40 };
  version = 1;
}

-- a node without further lines
abbrev pub new_node : (name : List ℕ) → Addr → Node
new_node name address = record { name = name; address = address; cells = 1024; ranges = []; routes = [] }

-- *Nodes* are numbered from 1
abbrev pub node_in : List Node → (number : ℕ) → Option Node
node_in nodes zero = None
node_in nodes (suc place) = slice_get nodes place

abbrev pub node_at : Topology → NodeId → Option Node
node_at topology node = node_in topology.nodes node.0

-- *Links*: the other end of the link at a port
abbrev pub same_link_end : LinkEnd → LinkEnd → Bool
same_link_end a b = (a.node.0 == b.node.0) && (a.port.0 == b.port.0)

abbrev pub peer_on : LinkEnd → Link → Option LinkEnd
peer_on end link =
    if same_link_end link.first end then Some link.second
    else (if same_link_end link.second end then Some link.first else None)

abbrev pub peer_among : LinkEnd → List Link → Option LinkEnd
peer_among end [] = None
peer_among end (link ∷ links) = option_or (peer_on end link) (peer_among end links)

abbrev pub peer_of : Topology → NodeId → PortNo → Option LinkEnd
peer_of topology node port = peer_among (record { node = node; port = port }) topology.links

-- the ports of a node that a link names, ascending
abbrev pub linked_ports : Topology → NodeId → List PortNo
linked_ports topology node =
    filter (λ port. is_some (peer_of topology node port)) (map (λ n. record { 0 = n }) (range_with_len 1 8))

-- *Labels*: the range of a port, by their numbers; of several lines the last counts, and 32 to 95 is the
-- range without one
abbrev pub default_range : PortNo → PortRange
default_range port = record { port = port; lo = 32; hi = 95 }

abbrev pub range_among : List PortRange → PortNo → PortRange
range_among ranges port =
    option_map_or (λ range. range) (find (λ range. range.port.0 == port.0) (reverse ranges)) (default_range port)

abbrev pub ranges_of : Topology → NodeId → Node → List PortRange
ranges_of topology number node = map (range_among node.ranges) (linked_ports topology number)

-- how many VPIs labels can have
abbrev pub vpis_of : Topology → ℕ
vpis_of topology = if topology.version == 2 then 16 else 1

-- *Times and policy*: where no flow is offered a label, packets are counted over 10 ticks
abbrev pub window_of : PolicyLine → ℕ
window_of (Xy x y) = y
window_of Never = 10

abbrev pub timers_of : Topology → Timers
timers_of topology = record {
  lifetime = topology.times.lifetime;
  refresh = topology.times.refresh;
  window = window_of topology.policy;
}

abbrev pub policy_by : PolicyLine → (idle : ℕ) → Policy
policy_by (Xy x y) idle = record { offers = λ flow packets. nat_le x packets; keeps = λ flow ticks. nat_le ticks idle }
policy_by Never idle = record { offers = λ flow packets. false; keeps = λ flow ticks. false }

-- the policy that the lines name; another can take its place
abbrev pub policy_of : Topology → Policy
policy_of topology = policy_by topology.policy topology.times.idle
