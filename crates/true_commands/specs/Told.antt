-- What a replay writes, line by line, and that it is true

use Rattle.std.specs.Prelude.{◌≡◌, ℕ, List, [], ◌++◌, Option}
use Rattle.std.specs.Io.KnownBytes.{Appends, Consumes}
use Rattle.world_model.specs.Topology.{policy_of}
use Rattle.script_model.specs.Script.{script_of}
use Rattle.script_model.specs.Documents.{document_script, document_policy}
use Rattle.script_model.specs.Drill.{drill_script}
use Rattle.script_model.specs.Reports.{report, report_under, last_line}
use Rattle.truth_model.specs.Lines.{AreTrueLines}
use Rattle.commands.specs.declared.task.Task as tasks
use Rattle.commands.specs.declared.task.Task.TheVariants.{Replay, View, Document, Drill, Whole, Lined}

-- *Each whole line of these octets is true*: a line of the script that an input is, or of the document, or of the drill, and
-- what it claims is so of the run. Of other tasks nothing is said
abbrev pub AreTaskLines : tasks.Task → (input octets : List ℕ) → Type 0
AreTaskLines Replay input octets = AreTrueLines (policy_of (script_of input).topology) (script_of input) octets
AreTaskLines (View view) input octets = Unit {0}
AreTaskLines Document input octets = AreTrueLines (document_policy input) (document_script input) octets
AreTaskLines (Drill number) input octets = AreTrueLines (policy_of (drill_script number).topology) (drill_script number) octets
AreTaskLines (Whole whole) input octets = Unit {0}
AreTaskLines (Lined lined) input octets = Unit {0}

-- *Whatever was written* in a call: it has such lines alone, of the script that some octets are which the call read before all
-- others that it read
pub record TellsTrue (task : tasks.Task) (left_old left_new written_old written_new : Option (List ℕ)) : Type 0 where
  pub read : List ℕ
  pub others : List ℕ
  pub octets : List ℕ
  pub consumed : Consumes left_old left_new (read ++ others)
  pub appended : Appends written_old written_new octets
  pub lines : AreTaskLines task read octets

-- so of each task that replays
abbrev pub HasTrueLines : tasks.Task → (left_old left_new written_old written_new : Option (List ℕ)) → Type 0
HasTrueLines Replay left_old left_new written_old written_new = TellsTrue Replay left_old left_new written_old written_new
HasTrueLines (View view) left_old left_new written_old written_new = Unit {0}
HasTrueLines Document left_old left_new written_old written_new = TellsTrue Document left_old left_new written_old written_new
HasTrueLines (Drill number) left_old left_new written_old written_new = TellsTrue (Drill number) left_old left_new written_old written_new
HasTrueLines (Whole whole) left_old left_new written_old written_new = Unit {0}
HasTrueLines (Lined lined) left_old left_new written_old written_new = Unit {0}

-- *The output* of a task that replays: the report, and of a drill its last line
abbrev pub output_of : tasks.Task → (input : List ℕ) → List ℕ
output_of Replay input = report (script_of input)
output_of (View view) input = []
output_of Document input = report_under (document_policy input) (document_script input)
output_of (Drill number) input = last_line (policy_of (drill_script number).topology) (drill_script number)
output_of (Whole whole) input = []
output_of (Lined lined) input = []

-- each front of it has true lines alone
abbrev pub OutputsAreTrue : Type 0
OutputsAreTrue = (task : tasks.Task) (input front rest : List ℕ) → front ++ rest ≡ output_of task input → AreTaskLines task input front
