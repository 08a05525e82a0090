use Rattle.std.proofs.Common.{◌∙◌, Ok, Option, Result, ap, arith, refl, subst, sym}
use Rattle.script_model.specs.declared.refusal.Refused.{Refused}
use Rattle.lab_io.proofs.Stops.{stays, stays_then}
use Rattle.line_by_line.specs.declared.fault.LineFault.{LineFault}
use Rattle.script_replay.specs.declared.script_run.Step.{Step}
use Rattle.script_replay.specs.Reading.{Advances, Finishes}
use Rattle.script_replay.proofs.Metered.{settled_metered}
use Rattle.line_by_line.proofs.Outcomes.{err_is, read_passes, write_passes}
use Rattle.script_replay.proofs.script_run.ScriptRun.take_lines.Goals as goal

pub loop-refused-init : goal.loop-refused-init
loop-refused-init g c = record {
  going = c.requires.going;
  counted = c.requires.counted;
  at = λ first start before from h. h;
  room = stays _;
  read = refl;
  write = refl;
  known = λ known. known;
  late = λ known. refl;
}

pub loop-refused-preserved : goal.loop-refused-preserved
loop-refused-preserved g c = record {
  going = c.in_ok-take_line.ensures.going;
  counted = c.in_ok-take_line.ensures.counted (ap Ok c.in-Goes.is);
  at = λ first start before from h.
      subst (λ (s : Step). Advances g.C.NodeController.seen g.T.Teller.state g.T.Teller.tale (g.N.PolicyChoice.chosen c.args.choice.now) first start before from (Ok s) c.take_line.new.self (g.S.Source.left c.take_line.new.source) (g.K.Sink.written c.take_line.new.sink) c.take_line.new.meter) c.in-Goes.is
      (c.in_ok-take_line.ensures.taken first start before from (c.loop-refused.invariant.at first start before from h));
  room = stays_then _ _ _ c.loop-refused.invariant.room c.in_ok-take_line.ensures.room;
  read = c.in_ok-take_line.ensures.read ∙ c.loop-refused.invariant.read;
  write = c.in_ok-take_line.ensures.write ∙ c.loop-refused.invariant.write;
  known = λ known. c.in_ok-take_line.ensures.known (c.loop-refused.invariant.known known);
  late = λ known. c.in_ok-take_line.ensures.late (c.loop-refused.invariant.known known) ∙ c.loop-refused.invariant.late known;
}

pub loop-refused-smaller : goal.loop-refused-smaller
loop-refused-smaller g c = omega (arith, c.in_ok-take_line.ensures.less (ap Ok c.in-Goes.is), c.loop-refused.invariant.counted.low)

pub returns-in-Ends-clause-taken : goal.returns-in-Ends-clause-taken
returns-in-Ends-clause-taken g c = λ first start before from h.
    subst (λ (s : Step). Advances g.C.NodeController.seen g.T.Teller.state g.T.Teller.tale (g.N.PolicyChoice.chosen c.args.choice.now) first start before from (Ok s) c.take_line.new.self (g.S.Source.left c.take_line.new.source) (g.K.Sink.written c.take_line.new.sink) c.take_line.new.meter) c.in-Ends.is
    (c.in_ok-take_line.ensures.taken first start before from (c.loop-refused.invariant.at first start before from h))

pub returns-in-Ends-clause-metered : goal.returns-in-Ends-clause-metered
returns-in-Ends-clause-metered g c = λ first start before from h.
    let seen = g.C.NodeController.seen in
    let known = g.T.Teller.state in
    let tale = g.T.Teller.tale in
    let choice = g.N.PolicyChoice.chosen c.args.choice.now in
    settled_metered seen known tale choice first start before from c.in-Ends.refused c.take_line.new.self (g.S.Source.left c.take_line.new.source) (g.K.Sink.written c.take_line.new.sink) c.take_line.new.meter
    (subst (λ (s : Step). Advances seen known tale choice first start before from (Ok s) c.take_line.new.self (g.S.Source.left c.take_line.new.source) (g.K.Sink.written c.take_line.new.sink) c.take_line.new.meter) c.in-Ends.is
    (c.in_ok-take_line.ensures.taken first start before from (c.loop-refused.invariant.at first start before from h)))

pub returns-in-Ends-clause-late : goal.returns-in-Ends-clause-late
returns-in-Ends-clause-late g c = λ known. c.in_ok-take_line.ensures.late (c.loop-refused.invariant.known known) ∙ c.loop-refused.invariant.late known

pub returns-in-Ends-clause-room : goal.returns-in-Ends-clause-room
returns-in-Ends-clause-room g c = stays_then _ _ _ c.loop-refused.invariant.room c.in_ok-take_line.ensures.room

pub returns-in-Ends-clause-read : goal.returns-in-Ends-clause-read
returns-in-Ends-clause-read g c = c.in_ok-take_line.ensures.read ∙ c.loop-refused.invariant.read

pub returns-in-Ends-clause-write : goal.returns-in-Ends-clause-write
returns-in-Ends-clause-write g c = c.in_ok-take_line.ensures.write ∙ c.loop-refused.invariant.write

pub returns-in_err-take_line-clause-taken : goal.returns-in_err-take_line-clause-taken
returns-in_err-take_line-clause-taken g c = λ first start before from h.
    subst (λ (r : Result (Option Refused) LineFault). Finishes g.C.NodeController.seen g.T.Teller.state g.T.Teller.tale (g.N.PolicyChoice.chosen c.args.choice.now) first start before from r c.take_line.new.self (g.S.Source.left c.take_line.new.source) (g.K.Sink.written c.take_line.new.sink) c.take_line.new.meter)
    (sym (err_is c.from_residual.result _ c.from_residual.ensures.1))
    (c.in_err-take_line.ensures.taken first start before from (c.loop-refused.invariant.at first start before from h))

pub returns-in_err-take_line-clause-metered : goal.returns-in_err-take_line-clause-metered
returns-in_err-take_line-clause-metered g c = λ first start before from h. c.in_err-take_line.ensures.kept first start before from (c.loop-refused.invariant.at first start before from h)

pub returns-in_err-take_line-clause-late : goal.returns-in_err-take_line-clause-late
returns-in_err-take_line-clause-late g c = λ known. c.in_err-take_line.ensures.late (c.loop-refused.invariant.known known) ∙ c.loop-refused.invariant.late known

pub returns-in_err-take_line-clause-room : goal.returns-in_err-take_line-clause-room
returns-in_err-take_line-clause-room g c = stays_then _ _ _ c.loop-refused.invariant.room c.in_err-take_line.ensures.room

pub returns-in_err-take_line-clause-read : goal.returns-in_err-take_line-clause-read
returns-in_err-take_line-clause-read g c = read_passes Step c.from_residual.result _ _ _ _ c.from_residual.ensures.1 c.in_err-take_line.ensures.read c.loop-refused.invariant.read

pub returns-in_err-take_line-clause-write : goal.returns-in_err-take_line-clause-write
returns-in_err-take_line-clause-write g c = write_passes Step c.from_residual.result _ _ _ _ c.from_residual.ensures.1 c.in_err-take_line.ensures.write c.loop-refused.invariant.write
