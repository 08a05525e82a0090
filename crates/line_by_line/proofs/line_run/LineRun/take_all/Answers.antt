use Rattle.std.proofs.Common.{◌∙◌, Ok, Result, ap, arith, refl, subst, sym}
use Rattle.line_by_line.specs.declared.fault.LineFault.{LineFault}
use Rattle.line_by_line.specs.declared.task.Step.{Step}
use Rattle.line_by_line.specs.Reading.{Advances, Finishes}
use Rattle.lab_io.proofs.Stops.{stays, stays_then}
use Rattle.line_by_line.proofs.Outcomes.{err_is, read_passes, write_passes}
use Rattle.line_by_line.proofs.line_run.LineRun.take_all.Goals as goal

pub loop-outcome-init : goal.loop-outcome-init
loop-outcome-init g c = record {
  going = c.requires.going;
  counted = c.requires.counted;
  at = λ account first start from h. h;
  room = stays _;
  read = refl;
  write = refl;
  known = λ known. known;
  late = λ known. refl;
}

pub loop-outcome-preserved : goal.loop-outcome-preserved
loop-outcome-preserved g c = record {
  going = c.in_ok-take_next.ensures.going (ap Ok c.in-Goes.is);
  counted = c.in_ok-take_next.ensures.counted (ap Ok c.in-Goes.is);
  at = λ account first start from h.
      subst (λ (s : Step g.row.T-Outcome.Denot). Advances account first start from (Ok s) (g.T.LineTask.account c.take_next.new.task) c.take_next.new.self (g.S.Source.left c.take_next.new.source) (g.K.Sink.written c.take_next.new.sink)) c.in-Goes.is
      (c.in_ok-take_next.ensures.taken account first start from (c.loop-outcome.invariant.at account first start from h));
  room = stays_then _ _ _ c.loop-outcome.invariant.room c.in_ok-take_next.ensures.room;
  read = c.in_ok-take_next.ensures.read ∙ c.loop-outcome.invariant.read;
  write = c.in_ok-take_next.ensures.write ∙ c.loop-outcome.invariant.write;
  known = λ known. c.in_ok-take_next.ensures.known (c.loop-outcome.invariant.known known);
  late = λ known. c.in_ok-take_next.ensures.late (c.loop-outcome.invariant.known known) ∙ c.loop-outcome.invariant.late known;
}

pub loop-outcome-smaller : goal.loop-outcome-smaller
loop-outcome-smaller g c = omega (arith, c.in_ok-take_next.ensures.less (ap Ok c.in-Goes.is), c.loop-outcome.invariant.counted.low)

pub returns-in-Ends-clause-taken : goal.returns-in-Ends-clause-taken
returns-in-Ends-clause-taken g c = λ account first start from h.
    subst (λ (s : Step g.row.T-Outcome.Denot). Advances account first start from (Ok s) (g.T.LineTask.account c.take_next.new.task) c.take_next.new.self (g.S.Source.left c.take_next.new.source) (g.K.Sink.written c.take_next.new.sink)) c.in-Ends.is
    (c.in_ok-take_next.ensures.taken account first start from (c.loop-outcome.invariant.at account first start from h))

pub returns-in-Ends-clause-room : goal.returns-in-Ends-clause-room
returns-in-Ends-clause-room g c = stays_then _ _ _ c.loop-outcome.invariant.room c.in_ok-take_next.ensures.room

pub returns-in-Ends-clause-read : goal.returns-in-Ends-clause-read
returns-in-Ends-clause-read g c = c.in_ok-take_next.ensures.read ∙ c.loop-outcome.invariant.read

pub returns-in-Ends-clause-write : goal.returns-in-Ends-clause-write
returns-in-Ends-clause-write g c = c.in_ok-take_next.ensures.write ∙ c.loop-outcome.invariant.write

pub returns-in-Ends-clause-late : goal.returns-in-Ends-clause-late
returns-in-Ends-clause-late g c = λ known. c.in_ok-take_next.ensures.late (c.loop-outcome.invariant.known known) ∙ c.loop-outcome.invariant.late known

pub returns-in_err-take_next-clause-taken : goal.returns-in_err-take_next-clause-taken
returns-in_err-take_next-clause-taken g c = λ account first start from h.
    subst (λ (r : Result g.row.T-Outcome.Denot LineFault). Finishes account first start from r c.take_next.new.self.writer (g.S.Source.left c.take_next.new.source) (g.K.Sink.written c.take_next.new.sink))
    (sym (err_is c.from_residual.result _ c.from_residual.ensures.1))
    (c.in_err-take_next.ensures.taken account first start from (c.loop-outcome.invariant.at account first start from h))

pub returns-in_err-take_next-clause-room : goal.returns-in_err-take_next-clause-room
returns-in_err-take_next-clause-room g c = stays_then _ _ _ c.loop-outcome.invariant.room c.in_err-take_next.ensures.room

pub returns-in_err-take_next-clause-read : goal.returns-in_err-take_next-clause-read
returns-in_err-take_next-clause-read g c = read_passes (Step g.row.T-Outcome.Denot) c.from_residual.result _ _ _ _ c.from_residual.ensures.1 c.in_err-take_next.ensures.read c.loop-outcome.invariant.read

pub returns-in_err-take_next-clause-write : goal.returns-in_err-take_next-clause-write
returns-in_err-take_next-clause-write g c = write_passes (Step g.row.T-Outcome.Denot) c.from_residual.result _ _ _ _ c.from_residual.ensures.1 c.in_err-take_next.ensures.write c.loop-outcome.invariant.write

pub returns-in_err-take_next-clause-late : goal.returns-in_err-take_next-clause-late
returns-in_err-take_next-clause-late g c = λ known. c.in_err-take_next.ensures.late (c.loop-outcome.invariant.known known) ∙ c.loop-outcome.invariant.late known
