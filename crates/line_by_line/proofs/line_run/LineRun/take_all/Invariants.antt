use Rattle.std.proofs.Common.{◌≡◌, ◌-◌, ℕ, List, Option}
use Rattle.lab_io.specs.Reading.{KnowsEnd}
use Rattle.lab_io.specs.Report.{Writer}
use Rattle.line_by_line.specs.Account.{Account}
use Rattle.lab_io.specs.Puts.{StaysWithin}
use Rattle.line_by_line.specs.Reading.{IsAtLine, IsCounted}
use Rattle.line_by_line.proofs.line_run.LineRun.take_all.Given as goal

abbrev pub invariant-loop-outcome : goal.invariant-loop-outcome
invariant-loop-outcome g l = record {
  going : g.T.LineTask.can_go l.task;
  counted : IsCounted (g.T.LineTask.octets l.task) l.self;
  at : (account : List (List ℕ) → Account g.row.T-Outcome.Denot) (first : Writer) (start from : Option (List ℕ))
      → IsAtLine account first start from (g.T.LineTask.account l.fn.task) l.fn.self (g.S.Source.left l.fn.source) (g.K.Sink.written l.fn.sink)
      → IsAtLine account first start from (g.T.LineTask.account l.task) l.self (g.S.Source.left l.source) (g.K.Sink.written l.sink);
  room : StaysWithin l.fn.self.writer l.self.writer;
  read : g.S.Source.faults l.source ≡ g.S.Source.faults l.fn.source;
  write : g.K.Sink.faults l.sink ≡ g.K.Sink.faults l.fn.sink;
  known : KnowsEnd l.fn.self.reader.is_ended (g.S.Source.said_end l.fn.source) → KnowsEnd l.self.reader.is_ended (g.S.Source.said_end l.source);
  late : KnowsEnd l.fn.self.reader.is_ended (g.S.Source.said_end l.fn.source) → g.S.Source.late_reads l.source ≡ g.S.Source.late_reads l.fn.source;
}

abbrev pub decreases-loop-outcome : goal.decreases-loop-outcome
decreases-loop-outcome g l = 16777217 - l.self.reader.given
