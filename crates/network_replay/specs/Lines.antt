-- What a line says by its form, and what a line of events needs of a network. No claim needs this file.

use Rattle.std.specs.Prelude.{◌≡◌, ◌+◌, ℕ, Bool, true, false, List, length, Option, Some, Result, Ok, Err}
use Rattle.script_model.specs.world_model.Conditions.{IsEvent}
use Rattle.script_model.specs.world_model.Topology.{Topology}
use Rattle.script_model.specs.world_model.World.{World}
use Rattle.script_model.specs.declared.line.Line.{Line}
use Rattle.script_model.specs.declared.refusal.Refused.{Refused}
use Rattle.script_model.specs.declared.refusal.Refused.TheVariants.{Line as LineIs}
use Rattle.script_model.specs.declared.refusal.LineRefusal.{LineRefusal}
use Rattle.script_model.specs.Reading.{line_says, string_says}
use Rattle.script_model.specs.State.{ScriptState}
use Rattle.network_replay.specs.declared.form.LineForm.{LineForm}
use Rattle.network_replay.specs.declared.form.LineForm.TheVariants.{Script, Document}
use Rattle.script_text.specs.declared.fault.ReadFault.{ReadFault}
use Rattle.script_text.specs.declared.fault.ReadFault.TheVariants as fault
use Rattle.lab_io.specs.declared.stop.Stop.{Stop}
use Rattle.lab_io.specs.declared.stop.Stop.TheVariants as stop
use Rattle.script_model.specs.declared.line.Line.TheVariants.{Blank, Topology as TopologyIs, Event as EventComes, TickAll, Run}

-- what a line of this form says
abbrev pub says_by : LineForm → ScriptState → (line : List ℕ) → Result Line LineRefusal
says_by Script = line_says
says_by Document = string_says

abbrev pub has_events : Line → Bool
has_events Blank = false
has_events (TopologyIs line) = false
has_events (EventComes event) = true
has_events TickAll = true
has_events (Run rounds) = true

-- a single event can come
abbrev pub IsMeant : Topology → World → Line → Type 0
IsMeant topology w (EventComes event) = IsEvent topology w event
IsMeant topology w line = Unit {0}

-- a line that is refused has the number of the last, and memory may be wanting
abbrev pub unsaid : (lines : ℕ) → ReadFault → Result (Option Refused) Stop
unsaid lines (fault.Refused name) = Ok (Some (LineIs lines name))
unsaid lines (fault.OutOfMemory error) = Err (stop.OutOfMemory error)

-- a line was counted
abbrev pub HasCounted : ScriptState → (line : List ℕ) → ScriptState → Type 0
HasCounted old line new = (new.octets ≡ old.octets + length line) × (new.lines ≡ old.lines + 1)
