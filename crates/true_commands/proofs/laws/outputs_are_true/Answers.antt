-- the run of each task that replays is true, and so are the lines of its report

use Rattle.std.proofs.Common.{◌≡◌, ℕ, List, ◌++◌}
use Rattle.port_model.specs.Setup.{Policy}
use Rattle.world_model.specs.Topology.{policy_of}
use Rattle.script_model.specs.Script.{Script, script_of}
use Rattle.script_model.specs.Documents.{document_script, document_policy}
use Rattle.script_model.specs.Drill.{drill_script}
use Rattle.truth_model.specs.Run.{IsTrueRun}
use Rattle.law_true_lines.specs.Law.{HasNames, IsTrueOf}
use Rattle.commands.specs.declared.task.Task.{Task}
use Rattle.commands.specs.declared.task.Task.TheVariants.{Replay, View, Document, Drill, Whole, Lined}
use Rattle.true_commands.specs.Told.{AreTaskLines, output_of}
use Rattle.true_commands.proofs.laws.outputs_are_true.Goals as goal

true_of : (policy : Policy) (script : Script) → HasNames script.topology → IsTrueRun policy script.topology script.events → IsTrueOf policy script
true_of policy script names run = record { names = names; routing = run.routing; harmony = run.harmony; causes = run.causes }

pub returns : goal.returns
returns c = by
  where
    by : (task : Task) (input front rest : List ℕ) → front ++ rest ≡ output_of task input → AreTaskLines task input front
    by Replay input front rest is =
        let script : Script = script_of input in
        c.lines_are_true.ensures.fronts (policy_of script.topology) script
        (true_of (policy_of script.topology) script (c.lines_are_true.ensures.scripts input) (c.tasks_are_true.ensures Replay input).0) front rest is
    by (View view) input front rest is = tt
    by Document input front rest is =
        let script : Script = document_script input in
        c.lines_are_true.ensures.fronts (document_policy input) script
        (true_of (document_policy input) script (c.lines_are_true.ensures.documents input) (c.tasks_are_true.ensures Document input).0) front rest is
    by (Drill number) input front rest is = c.lines_are_true.ensures.last (policy_of (drill_script number).topology) (drill_script number) front rest is
    by (Whole whole) input front rest is = tt
    by (Lined lined) input front rest is = tt
