-- What the lines of events need of a topology: which names, ports and changes of routes can be meant

use Rattle.std.specs.Prelude.{ℕ, ◌==◌, List, [], ◌∷◌, ◌++◌, fold, Option, None, Some, if◌then◌else◌}
use Rattle.net_types.specs.declared.node.NodeId.{NodeId}
use Rattle.net_types.specs.declared.node.PortNo.{PortNo}
use Rattle.net_types.specs.declared.node.Place.{Place}
use Rattle.net_types.specs.declared.node.Place.TheVariants.{Down, Up, Out}
use Rattle.ipv4_forward.specs.Change.{changed, change_fault}
use Rattle.ipv4_forward.specs.declared.change.ChangeFault.{ChangeFault}
use Rattle.ipv4_forward.specs.declared.change.ChangeFault.TheVariants as faults
use Rattle.ipv4_forward.specs.declared.change.RouteChange.{RouteChange}
use Rattle.ipv4_forward.specs.declared.table.Next.{Next}
use Rattle.ipv4_forward.specs.declared.table.Next.TheVariants.{Local, Via}
use Rattle.ipv4_forward.specs.declared.table.Route.{Route}
use Rattle.network_model.specs.declared.event.Event.{Event}
use Rattle.network_model.specs.declared.event.Event.TheVariants.{Inject, Carry, Lose, Tick, TickSwitch, Restart, RestartSwitch, Forge, Route as RouteEvent}
use Rattle.network_model.specs.declared.refusal.EventRefusal.{EventRefusal}
use Rattle.network_model.specs.declared.refusal.EventRefusal.TheVariants.{UnknownName, NoLink, TableFull, NoPrefix}
use Rattle.network_model.specs.Topology.{Topology}
use Rattle.network_model.specs.Lines.{node_named, is_linked, routes_of}

-- *Changes of routes*: those of a node among events, in order, and its table once all have been made
abbrev pub changes_at : NodeId → (at : NodeId) → RouteChange → List RouteChange
changes_at node at change = if at.0 == node.0 then change ∷ [] else []

abbrev pub changes_of : NodeId → List Event → List RouteChange
changes_of node [] = []
changes_of node (RouteEvent at change ∷ events) = changes_at node at change ++ changes_of node events
changes_of node (event ∷ events) = changes_of node events

abbrev pub table_after : Topology → List Event → NodeId → List Route
table_after topology events node = fold changed (routes_of topology node) (changes_of node events)

-- *Ports*: a queue at a port is that of a link, and so is the port that a change names
abbrev pub if_linked : Topology → NodeId → PortNo → Option EventRefusal
if_linked topology node port = if is_linked topology node port then None else Some NoLink

abbrev pub place_refusal : Topology → Place → Option EventRefusal
place_refusal topology (Down node) = None
place_refusal topology (Up node) = None
place_refusal topology (Out node port) = if_linked topology node port

abbrev pub next_refusal : Topology → NodeId → Option Next → Option EventRefusal
next_refusal topology node None = None
next_refusal topology node (Some Local) = None
next_refusal topology node (Some (Via port)) = if_linked topology node port

abbrev pub change_refusal : Option ChangeFault → Option EventRefusal
change_refusal None = None
change_refusal (Some faults.TableFull) = Some TableFull
change_refusal (Some faults.NoPrefix) = Some NoPrefix

-- the first of two refusals
abbrev pub or_else : Option EventRefusal → Option EventRefusal → Option EventRefusal
or_else None later = later
or_else (Some refusal) later = Some refusal

-- *Why an event can't come* to these nodes behind these events, if it can't; `table` is what the node's table will
-- be once all changes before have been made
abbrev pub route_event_refusal : Topology → (table : List Route) → NodeId → RouteChange → Option EventRefusal
route_event_refusal topology table node change =
    or_else (next_refusal topology node change.next) (change_refusal (change_fault table change))

abbrev pub event_refusal : Topology → (table : NodeId → List Route) → Event → Option EventRefusal
event_refusal topology table (Inject node octets) = None
event_refusal topology table (Carry place) = place_refusal topology place
event_refusal topology table (Lose place) = place_refusal topology place
event_refusal topology table (Tick node) = None
event_refusal topology table (TickSwitch node) = None
event_refusal topology table (Restart node) = None
event_refusal topology table (RestartSwitch node) = None
event_refusal topology table (Forge place channel payload) = place_refusal topology place
event_refusal topology table (RouteEvent node change) = route_event_refusal topology (table node) node change

-- of a line of an event that names a node
abbrev pub named_by : (NodeId → Option EventRefusal) → Option NodeId → Option EventRefusal
named_by refusal None = Some UnknownName
named_by refusal (Some node) = refusal node

abbrev pub named_refusal : Topology → (name : List ℕ) → (NodeId → Option EventRefusal) → Option EventRefusal
named_refusal topology name refusal = named_by refusal (node_named topology name)
