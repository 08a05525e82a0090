-- The report of a session: the lines that each event causes, and the last one. Its form is this project's own.

use Rattle.std.specs.Prelude.{ℕ, ◌+◌, ◌==◌, List, [], ◌∷◌, ◌++◌, length, drop, codes, decimal, find, flat_map, Option, None, Some, is_some}
use Rattle.std.specs.Option.{option_map}
use Rattle.lab_text.specs.Text.{line_of}
use Rattle.link_model.specs.declared.record.Record.{Record}
use Rattle.link_model.specs.declared.record.Record.TheVariants.{Chance}
use Rattle.line_by_line.specs.declared.task.Ending.{Ending}
use Rattle.line_by_line.specs.declared.task.Ending.TheVariants.{Done, Refused}
use Rattle.line_by_line.specs.Account.{Account, report}
use Rattle.world_model.specs.gsmp_wire.declared.failure.Failure.{Failure}
use Rattle.world_model.specs.gsmp_wire.declared.failure.Failure.TheVariants.{NoPort, BadSession, PortDown, OutOfRange, Busy, NoConnection, SessionsSpent}
use Rattle.world_model.specs.Answers.{failure_code}
use Rattle.console_model.specs.declared.event.ConsoleEvent.{ConsoleEvent}
use Rattle.console_model.specs.declared.fault.ConsoleFault.{ConsoleFault}
use Rattle.console_model.specs.declared.fault.ConsoleFault.TheVariants as fault
use Rattle.console_model.specs.declared.reply.Reply.{Reply}
use Rattle.console_model.specs.declared.reply.Reply.TheVariants as reply
use Rattle.console_model.specs.Lab.{Lab, branch_count, opened}
use Rattle.console_model.specs.Lines.{nothing_read}
use Rattle.console_model.specs.Steps.{lab_after, next}
use Rattle.console_run.specs.Session.{Refusal, Session, session_from, session_of}

-- *Names*
abbrev pub failure_name : Failure → List ℕ
failure_name NoPort = codes "NoPort"
failure_name BadSession = codes "BadSession"
failure_name PortDown = codes "PortDown"
failure_name OutOfRange = codes "OutOfRange"
failure_name Busy = codes "Busy"
failure_name NoConnection = codes "NoConnection"
failure_name SessionsSpent = codes "SessionsSpent"

abbrev pub failures : List Failure
failures = NoPort ∷ BadSession ∷ PortDown ∷ OutOfRange ∷ Busy ∷ NoConnection ∷ SessionsSpent ∷ []

-- the failure that has this code. No message tells of a code that none has; it would be written as a number
abbrev pub failure_of : (code : ℕ) → Option Failure
failure_of code = find (λ failure. failure_code failure == code) failures

abbrev pub name_or_code : (code : ℕ) → Option Failure → List ℕ
name_or_code code (Some failure) = failure_name failure
name_or_code code None = decimal code

abbrev pub fault_name : (refusal : ConsoleFault) → List ℕ
fault_name fault.ScriptTooLong = codes "ScriptTooLong"
fault_name fault.LineTooLong = codes "LineTooLong"
fault_name fault.BadByte = codes "BadByte"
fault_name fault.UnknownWord = codes "UnknownWord"
fault_name fault.Arity = codes "Arity"
fault_name fault.BadNumber = codes "BadNumber"
fault_name fault.BadPlace = codes "BadPlace"
fault_name fault.NoPorts = codes "NoPorts"
fault_name fault.Late = codes "Late"
fault_name fault.TooMany = codes "TooMany"

-- *The answer* of the command with this number, counted from 1
abbrev pub reply_words : (number : ℕ) → Reply → List (List ℕ)
reply_words number reply.Done = codes "done" ∷ decimal number ∷ []
reply_words number (reply.Failed code) = codes "failed" ∷ decimal number ∷ name_or_code code (failure_of code) ∷ []
reply_words number (reply.At end) =
    codes "at" ∷ decimal number ∷ decimal end.port.0 ∷ decimal end.channel.vci ∷ []

abbrev pub reply_line : (number : ℕ) → Reply → List ℕ
reply_line number given = line_of (reply_words number given)

-- the answers of the commands from this number on
abbrev pub reply_lines : (number : ℕ) → List Reply → List ℕ
reply_lines number [] = []
reply_lines number (given ∷ replies) = reply_line number given ++ reply_lines (number + 1) replies

-- *A chance*, of the console or of the switch; no other record is told
abbrev pub chance_line : Record → List ℕ
chance_line (Chance mark) = line_of (codes "chance" ∷ [])
chance_line item = []

abbrev pub chance_lines : List Record → List ℕ
chance_lines records = flat_map chance_line records

-- *An event*: its chances, and then the answers that came in it
abbrev pub lines_between : (before after : Lab) → List ℕ
lines_between before after =
    chance_lines after.notes.records ++ reply_lines (length before.answers + 1) (drop (length before.answers) after.answers)

unfoldable pub event_lines : Lab → ConsoleEvent → List ℕ
event_lines lab event = lines_between lab (next lab event)

abbrev pub events_lines : Lab → List ConsoleEvent → List ℕ
events_lines lab [] = []
events_lines lab (event ∷ events) = event_lines lab event ++ events_lines (next lab event) events

-- *The last line*: how many commands there were and how many of them are answered, and how many branches the switch has;
-- or the line that is refused
abbrev pub end_line : (commands answered branches : ℕ) → List ℕ
end_line commands answered branches =
    line_of (codes "end" ∷ codes "commands" ∷ decimal commands ∷ codes "answered" ∷ decimal answered ∷ codes "branches" ∷ decimal branches ∷ [])

abbrev pub lab_line : Lab → List ℕ
lab_line lab = end_line (length lab.commands) (length lab.answers) (branch_count lab.switch)

abbrev pub refusal_line : Refusal → List ℕ
refusal_line refusal = line_of (codes "refused" ∷ decimal refusal.number ∷ fault_name refusal.fault ∷ [])

-- *From a lab on*; there is none where no line was `ports`, and then no event
abbrev pub body_on : Option Lab → List ConsoleEvent → List ℕ
body_on None events = []
body_on (Some lab) events = events_lines lab events

abbrev pub end_on : Option Lab → List ConsoleEvent → List ℕ
end_on None events = end_line 0 0 0
end_on (Some lab) events = lab_line (lab_after lab events)

abbrev pub last_on : Option Lab → List ConsoleEvent → Option Refusal → List ℕ
last_on lab events None = end_on lab events
last_on lab events (Some refusal) = refusal_line refusal

abbrev pub ending_of : Option Refusal → Ending
ending_of None = Done
ending_of (Some refusal) = Refused

abbrev pub told_on : Option Lab → Session → Account Ending
told_on lab session = record {
  body = body_on lab session.events;
  last = last_on lab session.events session.refused;
  outcome = ending_of session.refused;
  is_ended = is_some session.refused;
}

-- *A session*: its lab is opened with its ports
abbrev pub told : Session → Account Ending
told session = told_on (option_map opened session.ports) session

-- *All lines of an input*
abbrev pub console_account : (lines : List (List ℕ)) → Account Ending
console_account lines = told (session_from nothing_read lines)

abbrev pub console_report : (input : List ℕ) → List ℕ
console_report input = report (told (session_of input))
