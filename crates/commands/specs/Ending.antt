-- How a task ends with an input, and its status

use Rattle.std.specs.Prelude.{◌≡◌, ℕ, List, Bool, true, false, is_some, if◌then◌else◌}
use Rattle.line_by_line.specs.declared.task.Ending as endings
use Rattle.line_by_line.specs.declared.task.Ending.TheVariants.{Done, Refused, Denied}
use Rattle.message_text.specs.Listing.{fault_in}
use Rattle.script_model.specs.Script.{script_of}
use Rattle.script_model.specs.Documents.{document_script}
use Rattle.script_model.specs.Judgement.{rules_refused}
use Rattle.script_model.specs.Drill.{drill_script}
use Rattle.commands.specs.declared.task.Task as tasks
use Rattle.commands.specs.declared.task.Task.TheVariants.{Replay, View, Document, Drill, Whole, Lined}
use Rattle.commands.specs.declared.task.Whole.TheVariants.{Ideal, Decode, Rules}
use Rattle.commands.specs.Lined.{lined_ending}
use Rattle.commands.specs.Task.{AskForTask}

abbrev pub is_refusal : endings.Ending → Bool
is_refusal Refused = true
is_refusal ending = false

-- a line of the input is refused
abbrev pub is_refused : tasks.Task → (input : List ℕ) → Bool
is_refused Replay input = is_some (script_of input).refused
is_refused (View view) input = is_some (script_of input).refused
is_refused Document input = is_some (document_script input).refused
is_refused (Drill number) input = is_some (drill_script number).refused
is_refused (Whole Ideal) input = is_some (script_of input).refused
is_refused (Whole (Decode protocol)) input = is_some (fault_in input)
is_refused (Whole Rules) input = is_some (rules_refused input)
is_refused (Lined lined) input = is_refusal (lined_ending lined input)

-- *How a task ends*: with a refused line or without, and a task that takes lines by what it makes of them
abbrev pub ending_by : (refused : Bool) → endings.Ending
ending_by refused = if refused then Refused else Done

abbrev pub task_ending : tasks.Task → (input : List ℕ) → endings.Ending
task_ending Replay input = ending_by (is_refused Replay input)
task_ending (View view) input = ending_by (is_refused (View view) input)
task_ending Document input = ending_by (is_refused Document input)
task_ending (Drill number) input = ending_by (is_refused (Drill number) input)
task_ending (Whole whole) input = ending_by (is_refused (Whole whole) input)
task_ending (Lined lined) input = lined_ending lined input

-- *Its status*: 0, or 2 where a line of the input is refused, or 6 where a trace isn't good
abbrev pub ending_status : endings.Ending → ℕ
ending_status Done = 0
ending_status Refused = 2
ending_status Denied = 6

abbrev pub status_of : tasks.Task → (input : List ℕ) → ℕ
status_of task input = ending_status (task_ending task input)

-- the words ask for something that ends so with this input
pub record HasEnding (words : List (List ℕ)) (input : List ℕ) (ending : endings.Ending) : Type 0 where
  pub task : tasks.Task
  pub asked : AskForTask words task
  pub ends : task_ending task input ≡ ending
