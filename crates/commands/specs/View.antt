-- What is told of the run of a script in place of its report

use Rattle.std.specs.Prelude.{ℕ, List}
use Rattle.world_model.specs.Topology.{policy_of}
use Rattle.script_model.specs.Script.{Script}
use Rattle.telling_model.specs.Placed.{Placed}
use Rattle.script_replay.specs.Report.{account_by, telling_by}
use Rattle.tell_trace.specs.Trace.{trace_tale}
use Rattle.tell_show.specs.Show.{show_tale}
use Rattle.tell_journal.specs.Journal.{journal_tale}
use Rattle.tell_capture.specs.Capture.{capture_tale}
use Rattle.commands.specs.declared.task.View as views
use Rattle.commands.specs.declared.task.View.TheVariants.{Trace, Show, Journal, Capture}

-- *The account of a script*, under the policy that it names: its trace, what its network holds at last, its
-- journal, or its capture
abbrev pub view_account : views.View → Script → List Placed → List ℕ
view_account Trace = account_by trace_tale policy_of
view_account Show = account_by show_tale policy_of
view_account Journal = account_by journal_tale policy_of
view_account Capture = account_by capture_tale policy_of

-- and what of it is told before the end
abbrev pub view_telling : views.View → Script → List Placed → List ℕ
view_telling Trace = telling_by trace_tale policy_of
view_telling Show = telling_by show_tale policy_of
view_telling Journal = telling_by journal_tale policy_of
view_telling Capture = telling_by capture_tale policy_of
