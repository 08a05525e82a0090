-- What is told of a drill's script

use Rattle.std.specs.Prelude.{ℕ, List}
use Rattle.port_model.specs.Setup.{Policy}
use Rattle.world_model.specs.Topology.{Topology}
use Rattle.world_model.specs.World.{opened}
use Rattle.script_model.specs.Reports.{last_line}
use Rattle.script_model.specs.Script.{Script}
use Rattle.world.specs.declared.counts.Meter.{Meter}
use Rattle.network_run.specs.Telling.{meter_behind}

-- *The last line* of its report, under the policy that is chosen for its topology, and the meter behind its last event
abbrev pub report_by : (Topology → Policy) → Script → List ℕ
report_by choice script = last_line (choice script.topology) script

abbrev pub meter_by : (Topology → Policy) → (before : Meter) → Script → Meter
meter_by choice before script =
    meter_behind before script.topology (opened (choice script.topology) script.topology) script.events
