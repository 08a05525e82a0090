-- The events of a script, each with the number of its line

use Rattle.std.specs.Prelude.{ℕ, List, [], ◌∷◌, ◌++◌, map, take, Result, Ok, Err}
use Rattle.script_model.specs.lab_text.Lines.{lines_of}
use Rattle.script_model.specs.world_model.network_model.declared.event.Event.{Event}
use Rattle.script_model.specs.declared.line.Line.{Line}
use Rattle.script_model.specs.declared.refusal.LineRefusal.{LineRefusal}
use Rattle.script_model.specs.Limits.{input_limit}
use Rattle.script_model.specs.Reading.{line_says, state_after}
use Rattle.script_model.specs.Script.{events_of, number_of}
use Rattle.script_model.specs.State.{ScriptState, nothing_read}

-- an event that comes of this line, counted from 1
pub record Placed : Type 0 where
  pub line : ℕ
  pub event : Event

abbrev pub placed : (line : ℕ) → Event → Placed
placed line event = record { line = line; event = event }

-- the events of a line
abbrev pub placed_events : (line : ℕ) → List Event → List Placed
placed_events line events = map (placed line) events

-- without the numbers of their lines
abbrev pub events_in : List Placed → List Event
events_in placed = map (λ (p : Placed). p.event) placed

-- *The events of a script*, up to its first refused line
abbrev pub placed_by : ScriptState → (line : List ℕ) → (onward : ScriptState → List Placed) → Result Line LineRefusal → List Placed
placed_by state line onward (Ok said) =
    placed_events (number_of state) (events_of state.topology said) ++ onward (state_after state line (Ok said))
placed_by state line onward (Err name) = []

abbrev pub placed_from : (says : ScriptState → List ℕ → Result Line LineRefusal) → ScriptState → List (List ℕ) → List Placed
placed_from says state [] = []
placed_from says state (line ∷ lines) = placed_by state line (λ next. placed_from says next lines) (says state line)

-- nothing is read past the octet that no input may hold
unfoldable pub placed_of : List ℕ → List Placed
placed_of octets = placed_from line_says nothing_read (lines_of (take input_limit octets))
