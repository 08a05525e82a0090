-- What is told of a script, and what its lines come to

use Rattle.std.specs.Prelude.{ℕ, List, Option, Result, Ok, Err}
use Rattle.lab_io.specs.Report.{Writer}
use Rattle.port_model.specs.Setup.{Policy}
use Rattle.world_model.specs.Controller.{Controller}
use Rattle.world_model.specs.Topology.{Topology}
use Rattle.world_model.specs.World.{opened}
use Rattle.script_model.specs.declared.refusal.Refused.{Refused}
use Rattle.script_model.specs.Documents.{Lines, behind_rules, rule_count, script_texts}
use Rattle.script_model.specs.Reading.{string_says}
use Rattle.script_model.specs.Reports.{report_under}
use Rattle.script_model.specs.Script.{Script, script_from}
use Rattle.script_model.specs.State.{nothing_read}
use Rattle.telling_model.specs.Placed.{Placed, placed_from}
use Rattle.telling_model.specs.Tale.{body}
use Rattle.world.specs.declared.counts.Meter.{Meter}
use Rattle.lab_io.specs.declared.stop.Stop.{Stop}
use Rattle.lab_io.specs.Puts.{StopsIn}
use Rattle.network_run.specs.Telling.{meter_behind}
use Rattle.network_replay.specs.declared.replay.Replay.{Replay}
use Rattle.network_replay.specs.Along.{IsAtLast}
use Rattle.tell_report.specs.Report.{report_tale}

-- *The report* of a script under the policy that is chosen for its topology, and the meter behind its last event
abbrev pub report_by : (Topology → Policy) → Script → List ℕ
report_by choice script = report_under (choice script.topology) script

abbrev pub meter_by : (Topology → Policy) → (before : Meter) → Script → Meter
meter_by choice before script =
    meter_behind before script.topology (opened (choice script.topology) script.topology) script.events

-- the script that lines are, and that of a document whose rules are read: its lines stand behind them
abbrev pub script_of_lines : List (List ℕ) → Script
script_of_lines lines = script_from string_says nothing_read lines

abbrev pub script_behind_rules : Lines → Script
script_behind_rules lines = behind_rules (rule_count lines) (script_of_lines (script_texts lines))

-- and its events, with the numbers of these lines
abbrev pub placed_of_lines : List (List ℕ) → List Placed
placed_of_lines lines = placed_from string_says nothing_read lines

-- *What lines come to*: the last line of the report is still to come, or an early end left a front of the lines of
-- records. No claim needs this word, nor the one above it
abbrev pub Comes : {C : Type 0} → (C → Controller) → (Topology → Policy) → Writer → (start : Option (List ℕ)) → (before : Meter) → Script → List Placed → Result (Option Refused) Stop
    → Replay C → Writer → (written : Option (List ℕ)) → Meter → Type 0
Comes seen choice first start before script placed (Ok refused) r writer written meter =
    IsAtLast seen report_tale choice first start before script placed refused r writer written meter
Comes seen choice first start before script placed (Err stop) r writer written meter =
    StopsIn stop first writer start written (body report_tale (choice script.topology) script placed)
