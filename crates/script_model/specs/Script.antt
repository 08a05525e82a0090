-- A script: from octets to a topology and the events in it, and the first refused line

use Rattle.std.specs.Prelude.{ℕ, ◌+◌, List, [], ◌∷◌, ◌++◌, take, Option, None, Some, Result, Ok, Err}
use Rattle.std.specs.List.{repeat}
use Rattle.rule_model.specs.lab_text.Lines.{lines_of}
use Rattle.world_model.specs.network_model.declared.event.Event.{Event}
use Rattle.world_model.specs.Topology.{Topology, policy_of}
use Rattle.world_model.specs.World.{World, opened}
use Rattle.world_model.specs.Run.{tick_of_all, round}
use Rattle.script_model.specs.declared.line.Line.{Line}
use Rattle.script_model.specs.declared.line.Line.TheVariants.{Blank, Topology as TopologyIs, Event as EventComes, TickAll, Run}
use Rattle.script_model.specs.declared.refusal.LineRefusal.{LineRefusal}
use Rattle.script_model.specs.declared.refusal.Refused.{Refused}
use Rattle.script_model.specs.declared.refusal.Refused.TheVariants.{Line as LineIs}
use Rattle.script_model.specs.Limits.{input_limit}
use Rattle.script_model.specs.State.{ScriptState, nothing_read}
use Rattle.script_model.specs.Reading.{line_says, state_after}

-- the topology and the events, how many lines were events, and what was refused
pub record Script : Type 0 where
  pub topology : Topology
  pub events : List Event
  pub event_lines : ℕ
  pub refused : Option Refused

-- *The events of a line*: `tick *` and `run` are single events, in order
abbrev pub opened_of : Topology → World
opened_of topology = opened (policy_of topology) topology

abbrev pub events_of : Topology → Line → List Event
events_of topology Blank = []
events_of topology (TopologyIs line) = []
events_of topology (EventComes event) = event ∷ []
events_of topology TickAll = tick_of_all (opened_of topology)
events_of topology (Run rounds) = repeat rounds (round (opened_of topology))

abbrev pub script_ended : ScriptState → Option Refused → Script
script_ended state refused = record {
  topology = state.topology;
  events = [];
  event_lines = state.event_lines;
  refused = refused;
}

abbrev pub preceded_by : List Event → Script → Script
preceded_by events script = record script { events = events ++ script.events }

-- the number of the next line
abbrev pub number_of : ScriptState → ℕ
number_of state = state.lines + 1

-- *The first refused line ends the script*; the lines before it have had their effect
abbrev pub script_by : ScriptState → (line : List ℕ) → (onward : ScriptState → Script) → Result Line LineRefusal → Script
script_by state line onward (Ok said) =
    preceded_by (events_of state.topology said) (onward (state_after state line (Ok said)))
script_by state line onward (Err name) = script_ended state (Some (LineIs (number_of state) name))

abbrev pub script_from : (says : ScriptState → List ℕ → Result Line LineRefusal) → ScriptState → List (List ℕ) → Script
script_from says state [] = script_ended state None
script_from says state (line ∷ lines) = script_by state line (λ next. script_from says next lines) (says state line)

-- nothing is read past the octet that no input may hold
unfoldable pub script_of : List ℕ → Script
script_of octets = script_from line_says nothing_read (lines_of (take input_limit octets))
