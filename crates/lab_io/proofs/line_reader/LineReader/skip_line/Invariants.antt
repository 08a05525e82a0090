use Rattle.std.proofs.Common.{◌≡◌, ◌-◌, ◌≤◌, length, false}
use Rattle.lab_io.specs.Reading.{KnowsEnd}
use Rattle.lab_io.proofs.Skips.{Skipped}
use Rattle.lab_io.proofs.line_reader.LineReader.skip_line.Given as goal

abbrev pub invariant-loop-read : goal.invariant-loop-read
invariant-loop-read g l = record {
  skipped : Skipped l.fn.self.held l.fn.self.given (g.S.Source.left l.fn.source) (g.S.Source.left l.source) l.read;
  faults : g.S.Source.faults l.source ≡ g.S.Source.faults l.fn.source;
  within : l.read ≤ 16777217;
  start : l.self-inside.start ≡ l.initial.self-inside.start;
  end : l.self-inside.end ≡ l.initial.self-inside.end;
  given : l.self-inside.given ≡ l.initial.self-inside.given;
  ended : l.self-inside.is_ended ≡ false;
  buffer : length l.self-inside.buffer.items ≡ length l.initial.self-inside.buffer.items;
  unsaid : KnowsEnd l.fn.self.is_ended (g.S.Source.said_end l.fn.source) → g.S.Source.said_end l.source ≡ false;
  late : KnowsEnd l.fn.self.is_ended (g.S.Source.said_end l.fn.source) → g.S.Source.late_reads l.source ≡ g.S.Source.late_reads l.fn.source;
}

abbrev pub decreases-loop-read : goal.decreases-loop-read
decreases-loop-read g l = 16777217 - l.read
