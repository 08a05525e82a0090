use Rattle.std.proofs.Common.{◌≡◌, ◌⊎◌, ◌+◌, ◌-◌, ◌*◌, ◌≤◌, length, take, true, false, Some, if◌then◌else◌}
use Rattle.std.specs.Io.KnownBytes.{IsAtEnd}
use Rattle.lab_io.specs.Lines.{Answer, answer_in, feed}
use Rattle.lab_io.specs.Reading.{KnowsEnd, Saw}
use Rattle.lab_io.proofs.line_reader.LineReader.next.Given as goal

abbrev pub invariant-loop-len : goal.invariant-loop-len
invariant-loop-len g l = record {
  saw : Saw l.fn.self.held (g.S.Source.left l.fn.source) (g.S.Source.left l.source) l.self.held;
  given : l.self.given ≡ l.fn.self.given;
  unended : l.self.is_ended ≡ false → l.fn.self.is_ended ≡ false;
  ended : l.self.is_ended ≡ true → (l.fn.self.is_ended ≡ true) ⊎ IsAtEnd (g.S.Source.left l.source);
  unread : (answer : Answer) → answer_in l.fn.self.given l.fn.self.is_ended l.fn.self.held ≡ Some answer
      → (l.self ≡ l.fn.self) × (l.source ≡ l.fn.source);
  faults : g.S.Source.faults l.source ≡ g.S.Source.faults l.fn.source;
  known : KnowsEnd l.fn.self.is_ended (g.S.Source.said_end l.fn.source) → KnowsEnd l.self.is_ended (g.S.Source.said_end l.source);
  late : KnowsEnd l.fn.self.is_ended (g.S.Source.said_end l.fn.source) → g.S.Source.late_reads l.source ≡ g.S.Source.late_reads l.fn.source;
  within : l.searched ≤ length l.self.held;
  no_feed : feed (take l.searched l.self.held) ≡ l.searched;
}

abbrev pub decreases-loop-len : goal.decreases-loop-len
decreases-loop-len g l = 2 * (16777217 - (l.self.given + length l.self.held)) + (if l.self.is_ended then 0 else 1)
