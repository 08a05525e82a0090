-- What a console's task makes of the lines to come

use Rattle.std.specs.Prelude.{◌≡◌, refl, ℕ, ◌+◌, ◌*◌, ◌≤◌, ◌<◌, true, List, [], Option, None, Some, Result, Ok, Err, IsSome, is_some}
use Rattle.std.specs.List.{repeat}
use Rattle.std.specs.Option.{option_map}
use Rattle.lab_io.specs.Report.{IsPut, Writer}
use Rattle.lab_io.specs.declared.stop.Stop.{Stop}
use Rattle.line_by_line.specs.declared.task.Ending.{Ending}
use Rattle.line_by_line.specs.declared.task.Ending.TheVariants.{Refused}
use Rattle.line_by_line.specs.Account.{Account}
use Rattle.lab_io.specs.Puts.{StopsIn}
use Rattle.world_model.specs.Limits.{event_limit}
use Rattle.console_model.specs.declared.event.ConsoleEvent.{ConsoleEvent}
use Rattle.console_model.specs.declared.fault.ConsoleFault.{ConsoleFault}
use Rattle.console_model.specs.declared.line.ConsoleLine.{ConsoleLine}
use Rattle.console_model.specs.declared.line.ConsoleLine.TheVariants.{Blank, Ports, Event, Run}
use Rattle.console_model.specs.Lab.{Lab, opened}
use Rattle.console_model.specs.Lines.{ConsoleState}
use Rattle.console_model.specs.Steps.{lab_after, next}
use Rattle.gsmp_console.specs.Bench.{lab_in}
use Rattle.console_run.specs.declared.lab_run.LabRun.{LabRun}
use Rattle.console_run.specs.declared.task.ConsoleTask.{ConsoleTask}
use Rattle.console_run.specs.Session.{Session, round, session_from}
use Rattle.console_run.specs.Report.{body_on, event_lines, events_lines, refusal_line, told_on}

-- *These octets were put*, or an early end came in them
abbrev pub Puts : {A : Type 0} → Result A Stop → (old new : Writer) → (written_old written_new : Option (List ℕ)) → (octets : List ℕ) → Type 0
Puts (Ok x) old new written_old written_new octets = IsPut old new written_old written_new octets
Puts (Err stop) old new written_old written_new octets = StopsIn stop old new written_old written_new octets

-- *The lab* with the notes of its run
abbrev pub lab_of : LabRun → Lab
lab_of run = lab_in run.lab run.notes

-- what an event leaves of it
unfoldable pub after_event : Lab → ConsoleEvent → Lab
after_event lab event = next lab event

-- a round, and what it leaves
unfoldable pub round_lines : Lab → List ℕ
round_lines lab = events_lines lab round

unfoldable pub after_round : Lab → Lab
after_round lab = lab_after lab round

-- *A line*: what its events cause, and what they leave
abbrev pub event_on : Option Lab → ConsoleEvent → List ℕ
event_on None event = []
event_on (Some lab) event = event_lines lab event

abbrev pub line_lines : Option Lab → ConsoleLine → List ℕ
line_lines lab Blank = []
line_lines lab (Ports n) = []
line_lines lab (Event event) = event_on lab event
line_lines lab (Run rounds) = body_on lab (repeat rounds round)

abbrev pub behind_line : Option Lab → ConsoleLine → Option Lab
behind_line lab Blank = lab
behind_line lab (Ports n) = Some (opened n)
behind_line lab (Event event) = option_map (λ l. after_event l event) lab
behind_line lab (Run rounds) = option_map (λ l. lab_after l (repeat rounds round)) lab

-- *A line can be taken*: `ports` once, and all others behind it; few events came before
abbrev pub events_in : Option Lab → ℕ
events_in None = 0
events_in (Some lab) = lab.events

abbrev pub CanTake : Option Lab → ConsoleLine → Type 0
CanTake lab Blank = Unit {0}
CanTake lab (Ports n) = (1 ≤ n) × (n ≤ 8)
CanTake lab (Event event) = IsSome lab × (events_in lab < event_limit)
CanTake lab (Run rounds) = IsSome lab × (events_in lab + 2 * rounds ≤ event_limit)

-- *The lab of lines to come*: it is opened already, or with their ports
abbrev pub opened_by : Option Lab → (ports : Option ℕ) → Option Lab
opened_by (Some lab) ports = Some lab
opened_by None ports = option_map opened ports

abbrev pub account_by : Option Lab → Session → Account Ending
account_by lab session = told_on (opened_by lab session.ports) session

-- a line that is refused ends it
abbrev pub refused_account : (number : ℕ) → ConsoleFault → Account Ending
refused_account number fault = record {
  body = [];
  last = refusal_line (record { number = number; fault = fault });
  outcome = Refused;
  is_ended = true;
}

abbrev pub account_from : ConsoleState → Option Lab → (coming : List (List ℕ)) → Account Ending
account_from state lab coming = account_by lab (session_from state coming)

abbrev pub lab_in_task : ConsoleTask → Option Lab
lab_in_task task = option_map lab_of task.running

abbrev pub task_octets : ConsoleTask → ℕ
task_octets task = task.script.octets

abbrev pub task_account : ConsoleTask → (coming : List (List ℕ)) → Account Ending
task_account task coming = account_from task.script (lab_in_task task) coming

-- *It can go on*: a line has an octet at least; the lab is opened where a line was `ports`; and its events are those of
-- the lines
pub record CanGo (state : ConsoleState) (lab : Option Lab) : Type 0 where
  pub lines : state.lines ≤ state.octets
  pub is_open : is_some lab ≡ state.has_ports
  pub events : events_in lab ≤ state.event_lines + 2 * state.rounds

abbrev pub IsReady : ConsoleTask → Type 0
IsReady task = CanGo task.script (lab_in_task task)

-- where no line comes, nothing is written but the last one
pub nothing_comes : (lab : Option Lab) → body_on (opened_by lab None) [] ≡ []
nothing_comes (Some lab) = refl
nothing_comes None = refl
