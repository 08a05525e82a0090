-- each command replays a script, which is a run, or audits a trace, or plays a console's session, which is one too

use Rattle.std.proofs.Common.{◌≡◌, ℕ, List, refl}
use Rattle.line_by_line.specs.declared.task.Ending.TheVariants.{Done}
use Rattle.trace_model.specs.Audit.{Outcome, Yes, Breaks, Refuses, Unended, audit_of}
use Rattle.trace_model.specs.Meaning.{trace_of, AtEach, IsClean}
use Rattle.audit_run.specs.Audit.{ending_of}
use Rattle.world_model.specs.Words.{Policy}
use Rattle.world_model.specs.Topology.{policy_of}
use Rattle.script_model.specs.Script.{Script, script_of}
use Rattle.script_model.specs.Documents.{document_script, document_policy}
use Rattle.script_model.specs.Drill.{drill_script}
use Rattle.law_script_runs.specs.Runs.{IsScriptRun}
use Rattle.commands.specs.declared.task.Task.{Task}
use Rattle.commands.specs.declared.task.Task.TheVariants.{Replay, View, Document, Drill, Whole, Lined}
use Rattle.commands.specs.declared.task.Lined.TheVariants.{Audit, Console}
use Rattle.law_true_runs.specs.Law.{RunsAreTrue}
use Rattle.law_live_runs.specs.Law.{RunsAreLive}
use Rattle.console_run.specs.Session.{session_of}
use Rattle.true_commands.specs.Law.{IsTrueTask, IsTrueScript, HoldsOfRun}
use Rattle.true_commands.proofs.Sessions.{true_session}
use Rattle.true_commands.proofs.laws.tasks_are_true.Goals as goal

true_under : RunsAreTrue → RunsAreLive → (policy : Policy) (script : Script) → IsScriptRun script → HoldsOfRun policy script.topology script.events
true_under runs live policy script is =
    (let soft = live policy script.topology script.events (is.run policy) is.addresses in
    (runs policy script.topology script.events (is.run policy) is.addresses, soft.0, soft.1))

pub returns : goal.returns
returns c = by
  where
    holds : (policy : Policy) (script : Script) → IsScriptRun script → HoldsOfRun policy script.topology script.events
    holds = true_under c.runs_are_true.ensures c.runs_are_live.ensures

    by_policy : (script : Script) → IsScriptRun script → IsTrueScript script
    by_policy script is = holds (policy_of script.topology) script is

    by : (task : Task) (input : List ℕ) → IsTrueTask task input
    by Replay input = by_policy (script_of input) (c.scripts_are_runs.ensures.scripts input)
    by (View view) input = by_policy (script_of input) (c.scripts_are_runs.ensures.scripts input)
    by Document input = holds (document_policy input) (document_script input) (c.scripts_are_runs.ensures.documents input)
    by (Drill number) input = by_policy (drill_script number) (c.scripts_are_runs.ensures.drills number)
    by (Whole whole) input = tt
    by (Lined Console) input = true_session c.every_run_is_right.ensures (session_of input) (c.sessions_are_runs.ensures.opened input)
    by (Lined Audit) input = clean (audit_of input) refl
      where
        clean : (outcome : Outcome) → audit_of input ≡ outcome → ending_of outcome ≡ Done → AtEach IsClean (trace_of input)
        clean (Yes links puts binds) is e = c.yes_is_of_clean_traces.ensures input links puts binds is
        clean (Breaks number breach) is e = absurd (cc)
        clean (Refuses number refusal) is e = absurd (cc)
        clean (Unended number) is e = absurd (cc)
