use Rattle.std.proofs.Common.{◌≡◌, ◌-◌, ℕ, List, Option}
use Rattle.lab_io.specs.Reading.{KnowsEnd}
use Rattle.lab_io.specs.Report.{Writer}
use Rattle.lab_io.specs.Puts.{StaysWithin}
use Rattle.network_replay.specs.Along.{IsGoing}
use Rattle.world.specs.declared.counts.Meter.{Meter}
use Rattle.script_replay.specs.Reading.{IsAtLine, IsCounted}
use Rattle.script_replay.proofs.script_run.ScriptRun.take_lines.Given as goal

abbrev pub invariant-loop-refused : goal.invariant-loop-refused
invariant-loop-refused g l = record {
  going : IsGoing g.C.NodeController.seen (g.N.PolicyChoice.chosen l.choice) l.self.replay;
  counted : IsCounted l.self;
  at : (first : Writer) (start : Option (List ℕ)) (before : Meter) (from : Option (List ℕ))
      → IsAtLine g.C.NodeController.seen g.T.Teller.state g.T.Teller.tale (g.N.PolicyChoice.chosen l.choice) first start before from l.fn.self (g.S.Source.left l.fn.source) (g.K.Sink.written l.fn.sink) l.fn.meter
      → IsAtLine g.C.NodeController.seen g.T.Teller.state g.T.Teller.tale (g.N.PolicyChoice.chosen l.choice) first start before from l.self (g.S.Source.left l.source) (g.K.Sink.written l.sink) l.meter;
  room : StaysWithin l.fn.self.told.writer l.self.told.writer;
  read : g.S.Source.faults l.source ≡ g.S.Source.faults l.fn.source;
  write : g.K.Sink.faults l.sink ≡ g.K.Sink.faults l.fn.sink;
  known : KnowsEnd l.fn.self.reader.is_ended (g.S.Source.said_end l.fn.source) → KnowsEnd l.self.reader.is_ended (g.S.Source.said_end l.source);
  late : KnowsEnd l.fn.self.reader.is_ended (g.S.Source.said_end l.fn.source) → g.S.Source.late_reads l.source ≡ g.S.Source.late_reads l.fn.source;
}

abbrev pub decreases-loop-refused : goal.decreases-loop-refused
decreases-loop-refused g l = 16777217 - l.self.reader.given
