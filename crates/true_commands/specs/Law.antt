-- What is true of the run of a script: of the network that its lines describe, under the policy that they name, or under the
-- rules of its document: of its packets, and of its soft state. And what a good trace is, and what holds of a console's session

use Rattle.std.specs.Prelude.{◌≡◌, ℕ, List, ◌++◌, Some}
use Rattle.line_by_line.specs.declared.task.Ending.TheVariants.{Done}
use Rattle.world_model.specs.Words.{Policy, Topology}
use Rattle.world_model.specs.Topology.{policy_of}
use Rattle.world_model.specs.network_model.declared.event.Event.{Event}
use Rattle.truth_model.specs.Run.{IsTrueRun}
use Rattle.live_model.specs.Run.{IsLiveRun}
use Rattle.calm_model.specs.Run.{IsCalmRun}
use Rattle.script_model.specs.Script.{Script, script_of}
use Rattle.script_model.specs.Documents.{document_script, document_policy}
use Rattle.script_model.specs.Drill.{drill_script}
use Rattle.trace_model.specs.Meaning.{trace_of, AtEach, IsClean}
use Rattle.console_model.specs.declared.event.ConsoleEvent.{ConsoleEvent}
use Rattle.console_model.specs.Lab.{opened}
use Rattle.console_model.specs.Steps.{lab_after}
use Rattle.console_model.specs.Law.{HasNoChance, IsRight}
use Rattle.console_run.specs.Session.{Session, session_of}
use Rattle.commands.specs.declared.task.Task as tasks
use Rattle.commands.specs.declared.task.Task.TheVariants.{Replay, View, Document, Drill, Whole, Lined}
use Rattle.commands.specs.declared.task.Lined.TheVariants.{Audit, Console}
use Rattle.commands.specs.Lined.{lined_ending}

-- of a run: what routing makes of its packets, and what stands beside it; and what becomes of its soft state, by itself and in calm beats
abbrev pub HoldsOfRun : Policy → Topology → List Event → Type 0
HoldsOfRun policy topology events = IsTrueRun policy topology events × IsLiveRun policy topology events × IsCalmRun policy topology events

-- of a script, under the policy that it names
abbrev pub IsTrueScript : Script → Type 0
IsTrueScript script = HoldsOfRun (policy_of script.topology) script.topology script.events

-- of a console's session, at each moment before its first chance: the answers so far are those of the plain machine, and the
-- switch has the plain machine's map
abbrev pub IsTrueSession : Session → Type 0
IsTrueSession session = (ports : ℕ) (before after : List ConsoleEvent) → session.ports ≡ Some ports → session.events ≡ before ++ after
    → HasNoChance (opened ports) before → IsRight ports (lab_after (opened ports) before)

-- of what a command replays, whatever is told of it; of a trace each line is clean, where its audit says yes; and of a session as above
abbrev pub IsTrueTask : tasks.Task → (input : List ℕ) → Type 0
IsTrueTask Replay input = IsTrueScript (script_of input)
IsTrueTask (View view) input = IsTrueScript (script_of input)
IsTrueTask Document input = HoldsOfRun (document_policy input) (document_script input).topology (document_script input).events
IsTrueTask (Drill number) input = IsTrueScript (drill_script number)
IsTrueTask (Whole whole) input = Unit {0}
IsTrueTask (Lined Audit) input = lined_ending Audit input ≡ Done → AtEach IsClean (trace_of input)
IsTrueTask (Lined Console) input = IsTrueSession (session_of input)

-- of whatever any command is given
abbrev pub TasksAreTrue : Type 0
TasksAreTrue = (task : tasks.Task) (input : List ℕ) → IsTrueTask task input
