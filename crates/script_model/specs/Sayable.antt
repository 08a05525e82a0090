-- Which lines can be said behind others: what a line that is written has to have so that it can be read

use Rattle.std.specs.Prelude.{◌≡◌, ℕ, ◌^◌, ◌≤◌, ◌<◌, true, false, List, length, Option, None, Some}
use Rattle.net_types.specs.declared.node.NodeId.{NodeId}
use Rattle.net_types.specs.declared.node.Place.{Place}
use Rattle.net_types.specs.declared.node.Place.TheVariants.{Down, Up, Out}
use Rattle.net_types.specs.Prefix.{Network, IsNetwork}
use Rattle.world_model.specs.ipv4_forward.declared.table.Next.{Next}
use Rattle.world_model.specs.ipv4_forward.declared.table.Next.TheVariants.{Local, Via}
use Rattle.rule_model.specs.lab_text.Forms.{is_name}
use Rattle.world_model.specs.network_model.declared.event.Event.{Event}
use Rattle.world_model.specs.network_model.declared.event.Event.TheVariants as event
use Rattle.world_model.specs.network_model.declared.line.TopologyLine.{TopologyLine}
use Rattle.world_model.specs.network_model.declared.line.TopologyLine.TheVariants as lines
use Rattle.world_model.specs.Limits.{greatest_payload}
use Rattle.world_model.specs.Topology.{Topology}
use Rattle.world_model.specs.Lines.{node_named, line_refusal}
use Rattle.world_model.specs.Events.{event_refusal}
use Rattle.world_model.specs.Conditions.{IsWithin, IsPort, AreOctets, HasItsNumbers}
use Rattle.script_model.specs.declared.line.Line.{Line}
use Rattle.script_model.specs.declared.line.Line.TheVariants.{Blank, Topology as TopologyIs, Event as EventComes, TickAll, Run}
use Rattle.script_model.specs.Limits.{greatest_rounds}
use Rattle.script_model.specs.Records.{is_label}
use Rattle.script_model.specs.State.{ScriptState, table_of, is_too_many}
use Rattle.script_model.specs.Meaning.{is_late}
use Rattle.script_model.specs.Texts.{name_of}

abbrev pub IsName : List ℕ → Type 0
IsName name = is_name name ≡ true

abbrev pub IsPrefix : Network → Type 0
IsPrefix prefix = (prefix.addr.0 < 2 ^ 32) × IsNetwork prefix.addr.0 prefix.len

-- *The words of a topology line* have their forms: its numbers are within their limits, and these are its other words
abbrev pub HasTexts : Topology → TopologyLine → Type 0
HasTexts topology (lines.Node name address) = IsName name × (address.0 < 2 ^ 32)
HasTexts topology (lines.Cells name cells) = IsName name
HasTexts topology (lines.Labels name port lo hi) =
    IsName name × (is_label topology lo ≡ true) × (is_label topology hi ≡ true)
HasTexts topology (lines.Link first second) = IsName first.0 × IsName second.0
HasTexts topology (lines.RouteVia name prefix port) = IsName name × IsPrefix prefix
HasTexts topology (lines.RouteLocal name prefix) = IsName name × IsPrefix prefix
HasTexts topology (lines.PolicyXy x y) = Unit {0}
HasTexts topology lines.PolicyNever = Unit {0}
HasTexts topology (lines.Timers lifetime refresh idle) = Unit {0}
HasTexts topology (lines.Version version) = Unit {0}

abbrev pub HasWords : Topology → TopologyLine → Type 0
HasWords topology line = HasItsNumbers line × HasTexts topology line

-- *Those of an event*: its node has a name, and is found by it
abbrev pub IsNamed : Topology → NodeId → Type 0
IsNamed topology node =
    IsName (name_of topology node) × (node_named topology (name_of topology node) ≡ Some node)

abbrev pub IsQueue : Topology → Place → Type 0
IsQueue topology (Down node) = IsNamed topology node
IsQueue topology (Up node) = IsNamed topology node
IsQueue topology (Out node port) = IsNamed topology node × IsPort port

abbrev pub IsNext : Option Next → Type 0
IsNext None = Unit {0}
IsNext (Some Local) = Unit {0}
IsNext (Some (Via port)) = IsPort port

abbrev pub HasEventWords : Topology → Event → Type 0
HasEventWords topology (event.Inject node octets) = IsNamed topology node × (0 < length octets) × AreOctets octets
HasEventWords topology (event.Carry place) = IsQueue topology place
HasEventWords topology (event.Lose place) = IsQueue topology place
HasEventWords topology (event.Tick node) = IsNamed topology node
HasEventWords topology (event.TickSwitch node) = IsNamed topology node
HasEventWords topology (event.Restart node) = IsNamed topology node
HasEventWords topology (event.RestartSwitch node) = IsNamed topology node
HasEventWords topology (event.Forge place channel payload) =
    IsQueue topology place × (channel.vpi ≤ 255) × (channel.vci ≤ 65535) × IsWithin 1 greatest_payload (length payload)
    × AreOctets payload
HasEventWords topology (event.Route node change) =
    IsNamed topology node × IsPrefix change.prefix × IsNext change.next

-- *A line* can be said here: its words have their forms, and it isn't refused for what it means
abbrev pub IsSayable : ScriptState → Line → Type 0
IsSayable state Blank = Unit {0}
IsSayable state (TopologyIs line) =
    HasWords state.topology line × (is_late state line ≡ false) × (line_refusal state.topology line ≡ None)
IsSayable state (EventComes event) =
    HasEventWords state.topology event × (event_refusal state.topology (table_of state) event ≡ None)
    × (is_too_many state (EventComes event) ≡ false)
IsSayable state TickAll = is_too_many state TickAll ≡ false
IsSayable state (Run rounds) = IsWithin 1 greatest_rounds rounds × (is_too_many state (Run rounds) ≡ false)
