-- What a network holds behind the last event, as a tale: all is told at last

use Rattle.std.specs.Prelude.{[], ◌++◌}
use Rattle.script_model.specs.Reports.{last_line_by}
use Rattle.telling_model.specs.Tale.{Tale}
use Rattle.show_text.specs.Shown.{end_line, totals_of, world_lines}

-- nothing is told as it opens, and nothing of an event; at last, all that the last world holds, and how much of each, or
-- what was refused
abbrev pub show_tale : Tale (Unit {0})
show_tale = record {
  opens = λ topology w. record { octets = []; state = tt };
  tells = λ state topology w placed. record { octets = []; state = tt };
  ends = λ topology w ended. world_lines topology w ++ last_line_by (end_line (totals_of w)) ended.refused;
}
