-- The report of a replay, as a tale

use Rattle.std.specs.Prelude.{ℕ, List, []}
use Rattle.world_model.specs.Run.{next}
use Rattle.world_model.specs.Topology.{Topology}
use Rattle.world_model.specs.World.{World, counts_of}
use Rattle.record_text.specs.script_model.Reports.{end_line, last_line_by, record_lines}
use Rattle.network_run.specs.telling_model.declared.ended.Ended.{Ended}
use Rattle.network_run.specs.telling_model.Tale.{Tale}

-- the line of the counts, or what is refused
abbrev pub report_end : Topology → World → Ended → List ℕ
report_end topology w ended = last_line_by (end_line ended.event_lines (counts_of w)) ended.refused

-- the lines of the records of each event, and the last line
abbrev pub report_tale : Tale (Unit {0})
report_tale = record {
  opens = λ topology w. record { octets = []; state = tt };
  tells = λ state topology w placed. record { octets = record_lines topology (next topology w placed.event).notes.records; state = tt };
  ends = report_end;
}
