-- The lines that make a topology: what each adds to it, and why it can't. The language is this project's own.

use Rattle.std.specs.Prelude.{ℕ, ◌+◌, ◌-◌, ◌==◌, Bool, ◌||◌, nat_le, List, [], ◌∷◌, ◌++◌, length, position, bytes_eq, slice_get, slice_set, is_none, is_some, Option, None, Some, Result, Ok, Err, if◌then◌else◌}
use Rattle.std.specs.Option.{option_map, option_map_or}
use Rattle.net_types.specs.declared.node.NodeId.{NodeId}
use Rattle.net_types.specs.declared.node.PortNo.{PortNo}
use Rattle.net_types.specs.Prefix.{Network}
use Rattle.ipv4_forward.specs.declared.table.Next.{Next}
use Rattle.ipv4_forward.specs.declared.table.Next.TheVariants.{Local, Via}
use Rattle.ipv4_forward.specs.declared.table.Route.{Route}
use Rattle.ipv4_forward.specs.Best.{has_prefix}
use Rattle.network_model.specs.declared.line.TopologyLine.{TopologyLine}
use Rattle.network_model.specs.declared.line.TopologyLine.TheVariants as lines
use Rattle.network_model.specs.declared.refusal.TopologyRefusal.{TopologyRefusal}
use Rattle.network_model.specs.declared.refusal.TopologyRefusal.TheVariants.{DuplicateName, TooMany, UnknownName, SelfLink, PortTaken, NoLink, Duplicate, TableFull}
use Rattle.network_model.specs.Limits.{greatest_nodes, greatest_links, greatest_routes}
use Rattle.network_model.specs.Topology.{Topology, Node, Link, Xy, Never, new_node, node_at, peer_of}

-- *Names*: the node of this name
abbrev pub is_named : (name : List ℕ) → Node → Bool
is_named name node = bytes_eq node.name name

abbrev pub node_named : Topology → (name : List ℕ) → Option NodeId
node_named topology name = option_map (λ place. record { 0 = place + 1 }) (position (is_named name) topology.nodes)

abbrev pub is_linked : Topology → NodeId → PortNo → Bool
is_linked topology node port = is_some (peer_of topology node port)

abbrev pub routes_of : Topology → NodeId → List Route
routes_of topology node = option_map_or (λ node. node.routes) (node_at topology node) []

-- *The first refusal that applies*
abbrev pub first_of : List (Bool × TopologyRefusal) → Option TopologyRefusal
first_of [] = None
first_of (test ∷ tests) = if test.0 then Some test.1 else first_of tests

-- of a line that names a node
abbrev pub of_named : (NodeId → Option TopologyRefusal) → Option NodeId → Option TopologyRefusal
of_named refusal None = Some UnknownName
of_named refusal (Some node) = refusal node

abbrev pub node_refusal : Topology → (name : List ℕ) → Option TopologyRefusal
node_refusal topology name =
    first_of
    ((is_some (node_named topology name), DuplicateName) ∷ (nat_le greatest_nodes (length topology.nodes), TooMany) ∷ [])

abbrev pub link_refusal : Topology → (first second : PortNo) → (one other : NodeId) → Option TopologyRefusal
link_refusal topology first second one other =
    first_of
    ((one.0 == other.0, SelfLink)
    ∷ (is_linked topology one first || is_linked topology other second, PortTaken)
    ∷ (nat_le greatest_links (length topology.links), TooMany) ∷ [])

abbrev pub route_refusal : List Route → Network → List (Bool × TopologyRefusal)
route_refusal routes prefix =
    (has_prefix routes prefix, Duplicate) ∷ (nat_le greatest_routes (length routes), TableFull) ∷ []

abbrev pub via_refusal : Topology → Network → PortNo → NodeId → Option TopologyRefusal
via_refusal topology prefix port node =
    first_of ((is_none (peer_of topology node port), NoLink) ∷ route_refusal (routes_of topology node) prefix)

abbrev pub local_refusal : Topology → Network → NodeId → Option TopologyRefusal
local_refusal topology prefix node = first_of (route_refusal (routes_of topology node) prefix)

-- why this line can't be added, if it can't
abbrev pub line_refusal : Topology → TopologyLine → Option TopologyRefusal
line_refusal topology (lines.Node name address) = node_refusal topology name
line_refusal topology (lines.Cells name cells) = of_named (λ node. None) (node_named topology name)
line_refusal topology (lines.Labels name port lo hi) = of_named (λ node. None) (node_named topology name)
line_refusal topology (lines.Link first second) =
    of_named
    (λ one. of_named (link_refusal topology first.1 second.1 one) (node_named topology second.0))
    (node_named topology first.0)
line_refusal topology (lines.RouteVia name prefix port) =
    of_named (via_refusal topology prefix port) (node_named topology name)
line_refusal topology (lines.RouteLocal name prefix) = of_named (local_refusal topology prefix) (node_named topology name)
line_refusal topology (lines.PolicyXy x y) = None
line_refusal topology lines.PolicyNever = None
line_refusal topology (lines.Timers lifetime refresh idle) = None
line_refusal topology (lines.Version version) = None

-- *What a line adds*: a node more, a change of the node that it names, or a link more; of lines about the whole
-- network the last counts
abbrev pub changed_at : (Node → Node) → List Node → (place : ℕ) → Option Node → List Node
changed_at change nodes place None = nodes
changed_at change nodes place (Some node) = slice_set nodes place (change node)

abbrev pub with_changed : Topology → (Node → Node) → Option NodeId → Topology
with_changed topology change None = topology
with_changed topology change (Some node) =
    record topology { nodes = changed_at change topology.nodes (node.0 - 1) (slice_get topology.nodes (node.0 - 1)) }

abbrev pub changes_named : Topology → (name : List ℕ) → (Node → Node) → Topology
changes_named topology name change = with_changed topology change (node_named topology name)

abbrev pub with_route : Network → Next → Node → Node
with_route prefix next node = record node { routes = node.routes ++ record { prefix = prefix; next = next } ∷ [] }

abbrev pub with_link : Topology → (first second : PortNo) → (one other : Option NodeId) → Topology
with_link topology first second (Some one) (Some other) =
    let link : Link = record { first = record { node = one; port = first }; second = record { node = other; port = second } } in
    record topology { links = topology.links ++ link ∷ [] }
with_link topology first second one other = topology

abbrev pub with_line : Topology → TopologyLine → Topology
with_line topology (lines.Node name address) = record topology { nodes = topology.nodes ++ new_node name address ∷ [] }
with_line topology (lines.Cells name cells) = changes_named topology name (λ node. record node { cells = cells })
with_line topology (lines.Labels name port lo hi) =
    changes_named topology name
    (λ node. record node { ranges = node.ranges ++ record { port = port; lo = lo; hi = hi } ∷ [] })
with_line topology (lines.Link first second) =
    with_link topology first.1 second.1 (node_named topology first.0) (node_named topology second.0)
with_line topology (lines.RouteVia name prefix port) = changes_named topology name (with_route prefix (Via port))
with_line topology (lines.RouteLocal name prefix) = changes_named topology name (with_route prefix Local)
with_line topology (lines.PolicyXy x y) = record topology { policy = Xy x y }
with_line topology lines.PolicyNever = record topology { policy = Never }
with_line topology (lines.Timers lifetime refresh idle) =
    record topology { times = record { lifetime = lifetime; refresh = refresh; idle = idle } }
with_line topology (lines.Version version) = record topology { version = version }

-- the topology after a line, or why there is none
abbrev pub after_by : Topology → Option TopologyRefusal → Result Topology TopologyRefusal
after_by topology None = Ok topology
after_by topology (Some refusal) = Err refusal

abbrev pub after_line : Topology → TopologyLine → Result Topology TopologyRefusal
after_line topology line = after_by (with_line topology line) (line_refusal topology line)
