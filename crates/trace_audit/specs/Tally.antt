-- a line more can be counted

use Rattle.std.specs.Prelude.{◌+◌, ◌<◌}
use Rattle.trace_audit.specs.declared.tally.Tally.{Tally}

abbrev pub has_room : Tally → Type 0
has_room tally = tally.counts.links + (tally.counts.puts + tally.counts.binds) < tally.octets
