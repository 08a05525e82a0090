-- What the commands read and write

use Rattle.std.specs.Prelude.{◌≡◌, ◌⊎◌, ℕ, ◌<◌, ◌≤◌, List, [], length, Bool, true, false, is_some, Option, Some, Result, IfErr, IfOk}
use Rattle.std.specs.Io.KnownBytes.{Appends, Consumes, IsAtEnd}
use Rattle.lab_io.specs.Transfer.{AppendsFront, ConsumesSome}
use Rattle.lab_text.specs.Line.{input_limit}
use Rattle.line_by_line.specs.declared.task.Ending as endings
use Rattle.line_by_line.specs.declared.task.Ending.TheVariants.{Done, Refused, Denied}
use Rattle.line_by_line.specs.Report as lines
use Rattle.message_text.specs.Listing.{IsListing}
use Rattle.world_model.specs.Topology.{policy_of}
use Rattle.script_model.specs.Documents.{document_script, document_rules, policy_with}
use Rattle.script_model.specs.Judgement.{rules_report}
use Rattle.script_model.specs.Drill.{drill_script}
use Rattle.script_model.specs.Ideal.{ideal_report}
use Rattle.world.specs.declared.counts.Meter.{Meter}
use Rattle.script_replay.specs.Report as replays
use Rattle.script_replay.specs.network_replay.Along.{IsMetered}
use Rattle.script_replay.specs.DocumentLines as documents
use Rattle.script_replay.specs.Drill as drills
use Rattle.commands.specs.declared.task.Task as tasks
use Rattle.commands.specs.declared.task.Task.TheVariants.{Replay, View, Document, Drill, Whole, Lined}
use Rattle.commands.specs.declared.task.Whole as wholes
use Rattle.commands.specs.declared.task.Whole.TheVariants.{Ideal, Decode, Rules}
use Rattle.commands.specs.declared.fault.RunFault.{RunFault}
use Rattle.commands.specs.declared.fault.RunFault.TheVariants.{Read, Write, OutOfMemory}
use Rattle.commands.specs.Ending.{is_refused}
use Rattle.commands.specs.Lined.{lined_account}
use Rattle.commands.specs.View.{view_account, view_telling}
use Rattle.commands.specs.Task.{AskForNone, AskForTask, usage_line}

-- *Read as a whole*: a report is that of an input: what routing alone makes of the packets of a script, what its
-- messages are decoded to, or how the rules of a document are judged
abbrev pub IsReport : wholes.Whole → (input report : List ℕ) → Type 0
IsReport Ideal input report = report ≡ ideal_report input
IsReport (Decode protocol) input report = IsListing protocol input report
IsReport Rules input report = report ≡ rules_report input

-- the octets read are the input, which ends where the source does, or at the octet past the greatest
-- input
pub record IsRead (left_old left_new : Option (List ℕ)) (input : List ℕ) : Type 0 where
  pub read : Consumes left_old left_new input
  pub within : length input ≤ input_limit
  pub whole : length input < input_limit → IsAtEnd left_new

-- what is written is the report of what was read
pub record IsDone (whole : wholes.Whole) (left_old left_new written_old written_new : Option (List ℕ)) (refused : Bool) : Type 0 where
  pub input : List ℕ
  pub report : List ℕ
  pub is_read : IsRead left_old left_new input
  pub is_report : IsReport whole input report
  pub written : Appends written_old written_new report
  pub outcome : refused ≡ is_refused (Whole whole) input

-- a front of the report is written
pub record IsFront (whole : wholes.Whole) (left_old left_new written_old written_new : Option (List ℕ)) : Type 0 where
  pub input : List ℕ
  pub report : List ℕ
  pub is_read : IsRead left_old left_new input
  pub is_report : IsReport whole input report
  pub written : AppendsFront written_old written_new report

-- nothing is written yet
pub record IsSilent (left_old left_new written_old written_new : Option (List ℕ)) : Type 0 where
  pub read : ConsumesSome left_old left_new
  pub written : Appends written_old written_new []

-- *A document is replayed*, under its rules where it has some, else under the policy that its lines name: what is written is
-- the report of the script that it is, and the meter is at the last of its events; or a front of that report is written
pub record IsDocumentDone (left_old left_new written_old written_new : Option (List ℕ)) (before meter : Meter) (refused : Bool) : Type 0 where
  pub input : List ℕ
  pub is_read : IsRead left_old left_new input
  pub written : Appends written_old written_new (documents.report_by (policy_with (document_rules input)) (document_script input))
  pub outcome : refused ≡ is_refused Document input
  pub meter_is : meter ≡ documents.meter_by (policy_with (document_rules input)) before (document_script input)

pub record IsDocumentFront (left_old left_new written_old written_new : Option (List ℕ)) : Type 0 where
  pub input : List ℕ
  pub is_read : IsRead left_old left_new input
  pub written : AppendsFront written_old written_new (documents.report_by (policy_with (document_rules input)) (document_script input))

-- *A drill*: nothing is read, and what is written is the last line of its report, or a front of it
pub record IsDrillDone (number : ℕ) (left_old left_new written_old written_new : Option (List ℕ)) (before meter : Meter) (refused : Bool) : Type 0 where
  pub unread : left_new ≡ left_old
  pub written : Appends written_old written_new (drills.report_by policy_of (drill_script number))
  pub outcome : refused ≡ is_some (drill_script number).refused
  pub meter_is : meter ≡ drills.meter_by policy_of before (drill_script number)

pub record IsDrillFront (number : ℕ) (left_old left_new written_old written_new : Option (List ℕ)) : Type 0 where
  pub unread : left_new ≡ left_old
  pub written : AppendsFront written_old written_new (drills.report_by policy_of (drill_script number))

-- *A task is done*, and ends so. A script is replayed, or something else is told of it, under the policy that it names, and the
-- meter is at the last of its events; a whole input has none, nor have lines that are taken one by one
abbrev pub EndsBy : (Bool → Type 0) → endings.Ending → Type 0
EndsBy IsDoneBy Done = IsDoneBy false
EndsBy IsDoneBy Refused = IsDoneBy true
EndsBy IsDoneBy Denied = ⊥

abbrev pub HasDone : tasks.Task → (left_old left_new written_old written_new : Option (List ℕ)) → (before meter : Meter) → (ending : endings.Ending) → Type 0
HasDone Replay left_old left_new written_old written_new before meter ending =
    EndsBy (λ refused. replays.IsDone policy_of (replays.report_by policy_of) left_old left_new written_old written_new before meter refused) ending
HasDone (View view) left_old left_new written_old written_new before meter ending =
    EndsBy (λ refused. replays.IsDone policy_of (view_account view) left_old left_new written_old written_new before meter refused) ending
HasDone Document left_old left_new written_old written_new before meter ending =
    EndsBy (λ refused. IsDocumentDone left_old left_new written_old written_new before meter refused) ending
HasDone (Drill number) left_old left_new written_old written_new before meter ending =
    EndsBy (λ refused. IsDrillDone number left_old left_new written_old written_new before meter refused) ending
HasDone (Whole whole) left_old left_new written_old written_new before meter ending =
    EndsBy (λ refused. IsDone whole left_old left_new written_old written_new refused) ending × (meter ≡ before)
HasDone (Lined lined) left_old left_new written_old written_new before meter ending =
    lines.IsDone (lined_account lined) left_old left_new written_old written_new ending × (meter ≡ before)

-- *The meter, whatever the result*: it is at one of the events of the script that the task replays, or as it was before the
-- first; of a source, where it told these octets
abbrev pub KeepsMeter : tasks.Task → (left : Option (List ℕ)) → (before meter : Meter) → Type 0
KeepsMeter Replay left before meter = replays.IsMeteredFrom policy_of left before meter
KeepsMeter (View view) left before meter = replays.IsMeteredFrom policy_of left before meter
KeepsMeter Document left before meter = (input : List ℕ) → left ≡ Some input → IsMetered (policy_with (document_rules input)) before (document_script input) meter
KeepsMeter (Drill number) left before meter = IsMetered policy_of before (drill_script number) meter
KeepsMeter (Whole whole) left before meter = meter ≡ before
KeepsMeter (Lined lined) left before meter = meter ≡ before

-- *What a fault leaves* of a task
abbrev pub LeavesUnread : tasks.Task → (left_old left_new written_old written_new : Option (List ℕ)) → Type 0
LeavesUnread Replay left_old left_new written_old written_new = replays.IsCutOff (replays.body_by policy_of) left_old left_new written_old written_new
LeavesUnread (View view) left_old left_new written_old written_new = replays.IsCutOff (view_telling view) left_old left_new written_old written_new
LeavesUnread Document left_old left_new written_old written_new = IsSilent left_old left_new written_old written_new
LeavesUnread (Drill number) left_old left_new written_old written_new = ⊥
LeavesUnread (Whole whole) left_old left_new written_old written_new = IsSilent left_old left_new written_old written_new
LeavesUnread (Lined lined) left_old left_new written_old written_new = lines.IsCutOff (lined_account lined) left_old left_new written_old written_new

abbrev pub LeavesFront : tasks.Task → (left_old left_new written_old written_new : Option (List ℕ)) → Type 0
LeavesFront Replay left_old left_new written_old written_new = replays.IsFront (replays.report_by policy_of) (replays.body_by policy_of) left_old left_new written_old written_new
LeavesFront (View view) left_old left_new written_old written_new = replays.IsFront (view_account view) (view_telling view) left_old left_new written_old written_new
LeavesFront Document left_old left_new written_old written_new = IsDocumentFront left_old left_new written_old written_new
LeavesFront (Drill number) left_old left_new written_old written_new = IsDrillFront number left_old left_new written_old written_new
LeavesFront (Whole whole) left_old left_new written_old written_new = IsFront whole left_old left_new written_old written_new
LeavesFront (Lined lined) left_old left_new written_old written_new = lines.IsFront (lined_account lined) left_old left_new written_old written_new

abbrev pub LeavesAtWant : tasks.Task → (left_old left_new written_old written_new : Option (List ℕ)) → Type 0
LeavesAtWant Replay left_old left_new written_old written_new = replays.IsFront (replays.report_by policy_of) (replays.body_by policy_of) left_old left_new written_old written_new
LeavesAtWant (View view) left_old left_new written_old written_new = replays.IsFront (view_account view) (view_telling view) left_old left_new written_old written_new
LeavesAtWant Document left_old left_new written_old written_new =
    IsSilent left_old left_new written_old written_new ⊎ IsDocumentFront left_old left_new written_old written_new
LeavesAtWant (Drill number) left_old left_new written_old written_new = IsDrillFront number left_old left_new written_old written_new
LeavesAtWant (Whole whole) left_old left_new written_old written_new = IsSilent left_old left_new written_old written_new
LeavesAtWant (Lined lined) left_old left_new written_old written_new = lines.IsFront (lined_account lined) left_old left_new written_old written_new

abbrev pub Leaves : RunFault → tasks.Task → (left_old left_new written_old written_new : Option (List ℕ)) → Type 0
Leaves Read task left_old left_new written_old written_new = LeavesUnread task left_old left_new written_old written_new
Leaves Write task left_old left_new written_old written_new = LeavesFront task left_old left_new written_old written_new
Leaves (OutOfMemory error) task left_old left_new written_old written_new = LeavesAtWant task left_old left_new written_old written_new

-- *What a task comes to*: it is done, or a fault leaves this of it
pub record HasRun (task : tasks.Task) (left_old left_new written_old written_new : Option (List ℕ)) (before meter : Meter) (result : Result endings.Ending RunFault) : Type 0 where
  pub done : IfOk result (HasDone task left_old left_new written_old written_new before meter)
  pub left : IfErr result (λ fault. Leaves fault task left_old left_new written_old written_new)

-- *Of a run*: the words ask for a task, and it is done
pub record IsAnswered (words : List (List ℕ)) (left_old left_new written_old written_new : Option (List ℕ)) (before meter : Meter) (ending : endings.Ending) : Type 0 where
  pub task : tasks.Task
  pub asked : AskForTask words task
  pub done : HasDone task left_old left_new written_old written_new before meter ending

-- a read failed in the task that they ask for
pub record IsCutOff (words : List (List ℕ)) (left_old left_new written_old written_new : Option (List ℕ)) : Type 0 where
  pub task : tasks.Task
  pub asked : AskForTask words task
  pub left : LeavesUnread task left_old left_new written_old written_new

-- a write failed: in the usage line, or in that task
pub data IsCutShort (words : List (List ℕ)) (left_old left_new written_old written_new : Option (List ℕ)) : Type 0 where
  InUsage : AskForNone words → AppendsFront written_old written_new usage_line → IsCutShort words left_old left_new written_old written_new
  InReport : (task : tasks.Task) → AskForTask words task → LeavesFront task left_old left_new written_old written_new → IsCutShort words left_old left_new written_old written_new

-- memory was wanting: before anything was read or written, or in that task
pub data IsGivenUp (words : List (List ℕ)) (left_old left_new written_old written_new : Option (List ℕ)) : Type 0 where
  Unread : left_new ≡ left_old → written_new ≡ written_old → IsGivenUp words left_old left_new written_old written_new
  InTask : (task : tasks.Task) → AskForTask words task → LeavesAtWant task left_old left_new written_old written_new → IsGivenUp words left_old left_new written_old written_new
