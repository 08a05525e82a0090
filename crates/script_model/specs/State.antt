-- What the lines of a script so far say, and which counts of it have limits

use Rattle.std.specs.Prelude.{ℕ, ◌+◌, ◌*◌, ◌-◌, Bool, true, false, ◌||◌, nat_lt, List, [], length, map, slice_get, slice_set}
use Rattle.std.specs.Option.{option_map_or}
use Rattle.net_types.specs.declared.node.NodeId.{NodeId}
use Rattle.world_model.specs.ipv4_forward.declared.table.Route.{Route}
use Rattle.world_model.specs.ipv4_forward.Change.{changed}
use Rattle.world_model.specs.network_model.declared.event.Event.{Event}
use Rattle.world_model.specs.network_model.declared.event.Event.TheVariants.{Tick, TickSwitch, Route as RouteComes}
use Rattle.world_model.specs.Topology.{Topology, Node, empty_topology}
use Rattle.world_model.specs.Lines.{with_line}
use Rattle.script_model.specs.declared.line.Line.{Line}
use Rattle.script_model.specs.declared.line.Line.TheVariants.{Blank, Topology as TopologyIs, Event as EventComes, TickAll, Run}
use Rattle.script_model.specs.Limits.{greatest_event_lines, greatest_rounds, greatest_ticks}

-- the topology; the routes of each node in order, as the route lines so far set them; how many octets and lines there
-- were, and whether one of them wasn't blank; how many lines were events, and their rounds and ticks
pub record ScriptState : Type 0 where
  pub topology : Topology
  pub tables : List (List Route)
  pub octets : ℕ
  pub lines : ℕ
  pub has_line : Bool
  pub event_lines : ℕ
  pub rounds : ℕ
  pub ticks : ℕ

abbrev pub nothing_read : ScriptState
nothing_read = record {
  topology = empty_topology;
  tables = [];
  octets = 0;
  lines = 0;
  has_line = false;
  event_lines = 0;
  rounds = 0;
  ticks = 0;
}

-- *Tables*: nodes are numbered from 1
abbrev pub table_among : List (List Route) → NodeId → List Route
table_among tables node = option_map_or (λ table. table) (slice_get tables (node.0 - 1)) []

abbrev pub table_of : ScriptState → NodeId → List Route
table_of state node = table_among state.tables node

abbrev pub tables_after : List (List Route) → Event → List (List Route)
tables_after tables (RouteComes node change) = slice_set tables (node.0 - 1) (changed (table_among tables node) change)
tables_after tables event = tables

abbrev pub opening_tables : Topology → List (List Route)
opening_tables topology = map (λ (node : Node). node.routes) topology.nodes

-- *Counts*: the rounds and the ticks of a line
abbrev pub rounds_of : Line → ℕ
rounds_of (Run rounds) = rounds
rounds_of line = 0

abbrev pub ticks_of_event : Event → ℕ
ticks_of_event (Tick node) = 1
ticks_of_event (TickSwitch node) = 1
ticks_of_event event = 0

abbrev pub ticks_of : Topology → Line → ℕ
ticks_of topology TickAll = 2 * length topology.nodes
ticks_of topology (EventComes event) = ticks_of_event event
ticks_of topology line = 0

-- an event line more would pass a limit
abbrev pub is_too_many : ScriptState → Line → Bool
is_too_many state line =
    nat_lt greatest_event_lines (state.event_lines + 1)
    || (nat_lt greatest_rounds (state.rounds + rounds_of line)
    || nat_lt greatest_ticks (state.ticks + ticks_of state.topology line))

-- *What a line leaves*
abbrev pub with_event_line : ScriptState → Line → ScriptState
with_event_line state line = record state {
  has_line = true;
  event_lines = state.event_lines + 1;
  rounds = state.rounds + rounds_of line;
  ticks = state.ticks + ticks_of state.topology line;
}

abbrev pub with_topology : ScriptState → Topology → ScriptState
with_topology state topology =
    record state { topology = topology; tables = opening_tables topology; has_line = true }

abbrev pub with_said : ScriptState → Line → ScriptState
with_said state Blank = state
with_said state (TopologyIs line) = with_topology state (with_line state.topology line)
with_said state (EventComes event) =
    record (with_event_line state (EventComes event)) { tables = tables_after state.tables event }
with_said state TickAll = with_event_line state TickAll
with_said state (Run rounds) = with_event_line state (Run rounds)

-- a line counts also where it is refused
abbrev pub with_counted : ScriptState → (line : List ℕ) → ScriptState
with_counted state line = record state { octets = state.octets + length line; lines = state.lines + 1 }
