-- What a line means behind those before it, and when it can't. The language is this project's own.

use Rattle.std.specs.Prelude.{ℕ, zero, suc, Bool, nat_lt, List, Option, None, Some, Result, Ok, Err, if◌then◌else◌}
use Rattle.std.specs.Option.{option_map}
use Rattle.net_types.specs.declared.node.NodeId.{NodeId}
use Rattle.net_types.specs.declared.node.Place.{Place}
use Rattle.net_types.specs.declared.node.Place.TheVariants.{Down, Up, Out}
use Rattle.world_model.specs.network_model.declared.event.Event.{Event}
use Rattle.world_model.specs.network_model.declared.event.Event.TheVariants.{Inject, Carry, Lose, Tick, TickSwitch, Restart, RestartSwitch, Forge, Route}
use Rattle.world_model.specs.network_model.declared.line.TopologyLine.{TopologyLine}
use Rattle.world_model.specs.network_model.declared.line.TopologyLine.TheVariants.{Version}
use Rattle.world_model.specs.network_model.declared.refusal.TopologyRefusal.{TopologyRefusal}
use Rattle.world_model.specs.network_model.declared.refusal.TopologyRefusal.TheVariants as topology
use Rattle.world_model.specs.network_model.declared.refusal.EventRefusal.{EventRefusal}
use Rattle.world_model.specs.network_model.declared.refusal.EventRefusal.TheVariants as event
use Rattle.world_model.specs.Lines.{node_named, line_refusal}
use Rattle.world_model.specs.Events.{event_refusal}
use Rattle.script_model.specs.declared.line.Line.{Line}
use Rattle.script_model.specs.declared.line.Line.TheVariants.{Topology as TopologyIs, Event as EventComes, TickAll, Run}
use Rattle.script_model.specs.declared.refusal.LineRefusal.{LineRefusal}
use Rattle.script_model.specs.declared.refusal.LineRefusal.TheVariants.{Late, DuplicateName, UnknownName, SelfLink, PortTaken, NoLink, Duplicate, TableFull, NoPrefix, TooMany}
use Rattle.script_model.specs.Forms.{QueueSide, FromController, FromPort, after}
use Rattle.script_model.specs.Grammar.{Said, Describes, Sends, Carries, Loses, Ticks, TicksAll, TicksSwitch, Restarts, RestartsSwitch, Runs, Forges, Routes}
use Rattle.script_model.specs.State.{ScriptState, table_of, is_too_many}

abbrev pub unless : {A : Type 0} → Option LineRefusal → A → Result A LineRefusal
unless None value = Ok value
unless (Some refusal) value = Err refusal

-- *A topology line* stands before all events, the version before all lines that aren't blank. Then it is added to the
-- topology, or it can't be
abbrev pub is_late : ScriptState → TopologyLine → Bool
is_late state (Version version) = state.has_line
is_late state line = nat_lt 0 state.event_lines

abbrev pub topology_name : TopologyRefusal → LineRefusal
topology_name topology.DuplicateName = DuplicateName
topology_name topology.TooMany = TooMany
topology_name topology.UnknownName = UnknownName
topology_name topology.SelfLink = SelfLink
topology_name topology.PortTaken = PortTaken
topology_name topology.NoLink = NoLink
topology_name topology.Duplicate = Duplicate
topology_name topology.TableFull = TableFull

abbrev pub describes : ScriptState → TopologyLine → Result Line LineRefusal
describes state line =
    if is_late state line then Err Late
    else unless (option_map topology_name (line_refusal state.topology line)) (TopologyIs line)

-- *An event line* names a node. Then its event can come, or it can't: a port's queue, and the port of a changed route,
-- are those of a link, and a change of a route is judged by the node's table after all its earlier route lines. The
-- limits come last
abbrev pub event_name : EventRefusal → LineRefusal
event_name event.UnknownName = UnknownName
event_name event.NoLink = NoLink
event_name event.TableFull = TableFull
event_name event.NoPrefix = NoPrefix

abbrev pub limited : ScriptState → Line → Result Line LineRefusal
limited state line = if is_too_many state line then Err TooMany else Ok line

abbrev pub comes : ScriptState → Event → Result Line LineRefusal
comes state event =
    after (limited state)
    (unless (option_map event_name (event_refusal state.topology (table_of state) event)) (EventComes event))

abbrev pub comes_at : ScriptState → (NodeId → Event) → Option NodeId → Result Line LineRefusal
comes_at state event None = Err UnknownName
comes_at state event (Some node) = comes state (event node)

abbrev pub happens : ScriptState → (name : List ℕ) → (NodeId → Event) → Result Line LineRefusal
happens state name event = comes_at state event (node_named state.topology name)

-- a queue of a node
abbrev pub place_at : QueueSide → NodeId → Place
place_at FromController node = Down node
place_at (FromPort zero) node = Up node
place_at (FromPort (suc n)) node = Out node (record { 0 = suc n })

abbrev pub meant : ScriptState → Said → Result Line LineRefusal
meant state (Describes line) = describes state line
meant state (Sends name octets) = happens state name (λ node. Inject node octets)
meant state (Carries name side) = happens state name (λ node. Carry (place_at side node))
meant state (Loses name side) = happens state name (λ node. Lose (place_at side node))
meant state (Ticks name) = happens state name Tick
meant state TicksAll = limited state TickAll
meant state (TicksSwitch name) = happens state name TickSwitch
meant state (Restarts name) = happens state name Restart
meant state (RestartsSwitch name) = happens state name RestartSwitch
meant state (Runs rounds) = limited state (Run rounds)
meant state (Forges name side channel payload) = happens state name (λ node. Forge (place_at side node) channel payload)
meant state (Routes name prefix next) = happens state name (λ node. Route node (record { prefix = prefix; next = next }))
