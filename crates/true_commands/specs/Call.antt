-- What a command gives whose input and output are octets in memory

use Rattle.std.specs.Prelude.{◌≡◌, ◌<◌, ◌≤◌, ℕ, List, length, take}
use Rattle.lab_text.specs.Line.{input_limit}
use Rattle.lab_text.specs.Words as lines
use Rattle.lab_io.specs.Memory.{written_over}
use Rattle.line_by_line.specs.Account.{report as account_report}
use Rattle.line_by_line.specs.Report.{account_of}
use Rattle.call_edge.specs.Words.{HasNoText}
use Rattle.world_model.specs.Topology.{policy_of}
use Rattle.script_model.specs.Script.{script_of}
use Rattle.script_model.specs.Documents.{document_script, document_policy}
use Rattle.script_model.specs.Drill.{drill_script}
use Rattle.script_model.specs.Reports.{report, report_under, last_line}
use Rattle.telling_model.specs.Placed.{placed_of}
use Rattle.commands.specs.declared.task.Task as tasks
use Rattle.commands.specs.declared.task.Task.TheVariants.{Replay, View, Document, Drill, Whole, Lined}
use Rattle.commands.specs.Ending.{status_of}
use Rattle.commands.specs.Lined.{lined_account}
use Rattle.commands.specs.Run.{IsReport}
use Rattle.commands.specs.Task.{AskForNone, AskForTask, usage_line}
use Rattle.commands.specs.View.{view_account}
use Rattle.true_commands.specs.Law.{IsTrueTask}
use Rattle.true_commands.specs.Told.{AreTaskLines}

-- *What a task gives* of an input, all of it. What reads its input as a whole reads it up to octet 16,777,217
abbrev pub Gives : tasks.Task → (input output : List ℕ) → Type 0
Gives Replay input output = output ≡ report (script_of input)
Gives (View view) input output = output ≡ view_account view (script_of input) (placed_of input)
Gives Document input output = output ≡ report_under (document_policy input) (document_script input)
Gives (Drill number) input output = output ≡ last_line (policy_of (drill_script number).topology) (drill_script number)
Gives (Whole whole) input output = IsReport whole (take input_limit input) output
Gives (Lined lined) input output = output ≡ account_report (account_of (lined_account lined) input)

-- *What words give*: what the task gives that they ask for, with its status, and each line of a report is true; or the usage
-- line, where they ask for none
pub data IsOutput (words : List (List ℕ)) (input output : List ℕ) (status : ℕ) : Type 0 where
  OfTask : (task : tasks.Task) → AskForTask words task → Gives task input output → AreTaskLines task input output → status ≡ status_of task input → IsOutput words input output status
  OfNone : AskForNone words → output ≡ usage_line → status ≡ 1 → IsOutput words input output status

-- *What a call leaves* in the room for its output, and its count and status: the output stands at the front of the room; or it
-- has more octets than the room, and the count says how many; or memory was wanting; or a word isn't text
pub data Leaves (words : List (List ℕ)) (input room_old room_new : List ℕ) (count status : ℕ) : Type 0 where
  Given : (output : List ℕ) → IsOutput words input output status → length output ≤ length room_old
      → room_new ≡ written_over room_old output → count ≡ length output → Leaves words input room_old room_new count status
  NoRoom : (output : List ℕ) (wanted : ℕ) → IsOutput words input output wanted → length room_old < length output
      → room_new ≡ room_old → count ≡ length output → status ≡ 4 → Leaves words input room_old room_new count status
  NoMemory : room_new ≡ room_old → count ≡ 0 → status ≡ 5 → Leaves words input room_old room_new count status
  NoText : HasNoText words → room_new ≡ room_old → count ≡ 0 → status ≡ 7 → Leaves words input room_old room_new count status

-- *A call*: the words stand in one text, with spaces or tabs between them. And what is true of the task that they ask for
pub record IsCall (words input room_old room_new : List ℕ) (count status : ℕ) : Type 0 where
  pub leaves : Leaves (lines.words words) input room_old room_new count status
  pub headline : (task : tasks.Task) (any : List ℕ) → AskForTask (lines.words words) task → IsTrueTask task any
