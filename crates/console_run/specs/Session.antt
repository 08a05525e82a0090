-- What an input of a console says: its ports, its events one by one, and the first line that is refused

use Rattle.std.specs.Prelude.{ℕ, ◌+◌, List, [], ◌∷◌, ◌++◌, take, Option, None, Some, Result, Ok, Err}
use Rattle.std.specs.List.{repeat}
use Rattle.lab_text.specs.Line.{input_limit}
use Rattle.lab_text.specs.Lines.{lines_of}
use Rattle.console_model.specs.declared.event.Side.TheVariants.{Console, Switch}
use Rattle.console_model.specs.declared.event.ConsoleEvent.{ConsoleEvent}
use Rattle.console_model.specs.declared.event.ConsoleEvent.TheVariants.{Carry}
use Rattle.console_model.specs.declared.fault.ConsoleFault.{ConsoleFault}
use Rattle.console_model.specs.declared.line.ConsoleLine.{ConsoleLine}
use Rattle.console_model.specs.declared.line.ConsoleLine.TheVariants.{Blank, Ports, Event, Run}
use Rattle.console_model.specs.Lines.{ConsoleState, line_says, nothing_read, with_counted, with_said}

-- which line is refused, counted from 1, blank ones too, and why
pub record Refusal : Type 0 where
  pub number : ℕ
  pub fault : ConsoleFault

-- the ports of the switch, where a line `ports` was read; the events of the lines before the first that is refused, in
-- order; and that line, where there is one
pub record Session : Type 0 where
  pub ports : Option ℕ
  pub events : List ConsoleEvent
  pub refused : Option Refusal

-- *A round*: a cell is carried from the console, and then one from the switch
abbrev pub round : List ConsoleEvent
round = Carry Console ∷ Carry Switch ∷ []

-- *The events of a line*
abbrev pub events_of : ConsoleLine → List ConsoleEvent
events_of Blank = []
events_of (Ports n) = []
events_of (Event event) = event ∷ []
events_of (Run rounds) = repeat rounds round

-- *A line*, and what those behind it say
abbrev pub ports_by : ConsoleLine → (onward : Option ℕ) → Option ℕ
ports_by (Ports n) onward = Some n
ports_by line onward = onward

abbrev pub begun_by : ConsoleLine → (onward : Session) → Session
begun_by line onward = record onward {
  ports = ports_by line onward.ports;
  events = events_of line ++ onward.events;
}

-- nothing behind a refused line counts
abbrev pub refused_at : ConsoleState → ConsoleFault → Session
refused_at state fault = record { ports = None; events = []; refused = Some (record { number = state.lines + 1; fault = fault }) }

abbrev pub session_by : ConsoleState → (onward : ConsoleLine → Session) → Result ConsoleLine ConsoleFault → Session
session_by state onward (Ok line) = begun_by line (onward line)
session_by state onward (Err fault) = refused_at state fault

-- *The lines* behind those that came to this
abbrev pub state_behind : ConsoleState → (line : List ℕ) → ConsoleLine → ConsoleState
state_behind state line said = with_said (with_counted state line) said

abbrev pub session_from : ConsoleState → (lines : List (List ℕ)) → Session
session_from state [] = record { ports = None; events = []; refused = None }
session_from state (line ∷ lines) =
    session_by state (λ said. session_from (state_behind state line said) lines) (line_says state line)

-- *An input*: nothing is read past the octet that no input may hold
unfoldable pub session_of : (input : List ℕ) → Session
session_of input = session_from nothing_read (lines_of (take input_limit input))
