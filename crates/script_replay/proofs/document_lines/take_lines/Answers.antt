use Rattle.std.proofs.Common.{◌≡◌, ◌∙◌, ◌+◌, ℕ, suc, take, slice_get, Option, None, Result, Ok, refl, sym, subst, arith}
use Rattle.script_model.specs.declared.refusal.Refused.{Refused}
use Rattle.script_model.specs.Documents.{script_texts}
use Rattle.script_model.specs.Reading.{string_says}
use Rattle.lab_io.specs.declared.stop.Stop.{Stop}
use Rattle.lab_io.proofs.Stops.{stays, stays_then}
use Rattle.lab_io.proofs.Sights.{on_err}
use Rattle.network_replay.specs.Along.{GoesOn}
use Rattle.tell_report.specs.Report.{report_tale}
use Rattle.script_replay.specs.DocumentLines.{Comes, placed_of_lines, script_of_lines}
use Rattle.script_replay.proofs.DocumentTakings.{AlongTo, begins, ends, ends_early, ends_refused, ends_without_room, err_is, goes_on, kept_early, kept_without_room, known, past_last}
use Rattle.script_replay.proofs.document_lines.take_lines.Goals as goal

pub loop-place-init : goal.loop-place-init
loop-place-init g c = record {
  along = begins g.C.NodeController.seen (g.N.PolicyChoice.chosen c.args.choice.now) c.args.told.now (g.K.Sink.written c.args.sink.now) c.args.meter.now (script_texts c.args.lines.now) c.args.replay.now c.requires.begun;
  room = stays _;
  faults = refl;
}

pub returns-in_default-clause-comes : goal.returns-in_default-clause-comes
returns-in_default-clause-comes g c =
    let none : slice_get (script_texts c.args.lines.now) c.loop-place.place ≡ None = sym c.in_default.ensures in
    ends g.C.NodeController.seen (g.N.PolicyChoice.chosen c.args.choice.now) c.args.told.now.writer (g.K.Sink.written c.args.sink.now) c.args.meter.now (script_texts c.args.lines.now) c.loop-place.place
    (past_last (script_texts c.args.lines.now) c.loop-place.place none) c.loop-place.replay c.loop-place.told (g.K.Sink.written c.loop-place.sink) c.loop-place.meter c.loop-place.invariant.along

pub returns-then-not-has_room-clause-comes : goal.returns-then-not-has_room-clause-comes
returns-then-not-has_room-clause-comes g c =
    ends_without_room g.C.NodeController.seen (g.N.PolicyChoice.chosen c.args.choice.now) c.args.told.now.writer (g.K.Sink.written c.args.sink.now) c.args.meter.now (script_texts c.args.lines.now) c.loop-place.place
    c.in-Some.text.now (sym c.in-Some.ensures) c.from.result c.loop-place.replay c.loop-place.told (g.K.Sink.written c.loop-place.sink) c.loop-place.meter c.loop-place.invariant.along

pub returns-in_err-refused-clause-comes : goal.returns-in_err-refused-clause-comes
returns-in_err-refused-clause-comes g c =
    subst (λ (r : Result (Option Refused) Stop). Comes g.C.NodeController.seen (g.N.PolicyChoice.chosen c.args.choice.now) c.args.told.now.writer (g.K.Sink.written c.args.sink.now) c.args.meter.now (script_of_lines (script_texts c.args.lines.now)) (placed_of_lines (script_texts c.args.lines.now)) r c.line.new.self c.line.new.told.writer (g.K.Sink.written c.line.new.sink) c.line.new.meter)
    (sym (err_is c.from_residual.result _ c.from_residual.ensures.1))
    (ends_early g.C.NodeController.seen (g.N.PolicyChoice.chosen c.args.choice.now) c.args.told.now.writer (g.K.Sink.written c.args.sink.now) c.args.meter.now (script_texts c.args.lines.now) c.loop-place.place
    c.in-Some.text.now (sym c.in-Some.ensures) c.in_err-refused.field-0.0 c.line.new.self c.line.new.told (g.K.Sink.written c.line.new.sink) c.line.new.meter
    (c.in_err-refused.ensures.along c.args.told.now.writer (g.K.Sink.written c.args.sink.now) c.args.meter.now (take c.loop-place.place (script_texts c.args.lines.now)) c.loop-place.invariant.along))

pub returns-then-not-has_room-clause-kept : goal.returns-then-not-has_room-clause-kept
returns-then-not-has_room-clause-kept g c =
    kept_without_room g.C.NodeController.seen (g.N.PolicyChoice.chosen c.args.choice.now) c.args.told.now.writer (g.K.Sink.written c.args.sink.now) c.args.meter.now (script_texts c.args.lines.now) c.loop-place.place
    c.in-Some.text.now (sym c.in-Some.ensures) c.loop-place.replay c.loop-place.told (g.K.Sink.written c.loop-place.sink) c.loop-place.meter c.loop-place.invariant.along

pub returns-in_err-refused-clause-kept : goal.returns-in_err-refused-clause-kept
returns-in_err-refused-clause-kept g c =
    on_err c.from_residual.result
    (kept_early g.C.NodeController.seen (g.N.PolicyChoice.chosen c.args.choice.now) c.args.told.now.writer (g.K.Sink.written c.args.sink.now) c.args.meter.now (script_texts c.args.lines.now) c.loop-place.place
    c.in-Some.text.now (sym c.in-Some.ensures) c.in_err-refused.field-0.0 c.line.new.meter
    (c.in_err-refused.ensures.kept c.args.told.now.writer (g.K.Sink.written c.args.sink.now) c.args.meter.now (take c.loop-place.place (script_texts c.args.lines.now)) c.loop-place.invariant.along))

pub returns-in-Some-2-clause-comes : goal.returns-in-Some-2-clause-comes
returns-in-Some-2-clause-comes g c =
    ends_refused g.C.NodeController.seen (g.N.PolicyChoice.chosen c.args.choice.now) c.args.told.now.writer (g.K.Sink.written c.args.sink.now) c.args.meter.now (script_texts c.args.lines.now) c.loop-place.place
    c.in-Some.text.now (sym c.in-Some.ensures) c.in-Some-2.refused c.line.new.self c.line.new.told (g.K.Sink.written c.line.new.sink) c.line.new.meter
    (subst (λ (o : Option Refused). GoesOn g.C.NodeController.seen known report_tale (g.N.PolicyChoice.chosen c.args.choice.now) string_says c.args.told.now.writer (g.K.Sink.written c.args.sink.now) c.args.meter.now (take c.loop-place.place (script_texts c.args.lines.now)) c.in-Some.text.now (Ok o) c.line.new.self c.line.new.told (g.K.Sink.written c.line.new.sink) c.line.new.meter) c.in-Some-2.is
    (c.in_ok-refused.ensures.along c.args.told.now.writer (g.K.Sink.written c.args.sink.now) c.args.meter.now (take c.loop-place.place (script_texts c.args.lines.now)) c.loop-place.invariant.along))

pub loop-place-preserved : goal.loop-place-preserved
loop-place-preserved g c =
    let none : c.in_ok-refused.field-0 ≡ None = cc in
    let next : suc c.loop-place.place ≡ c.loop-place.place + 1 = omega arith in
    record {
      along = subst (λ (place : ℕ). AlongTo g.C.NodeController.seen (g.N.PolicyChoice.chosen c.args.choice.now) c.args.told.now.writer (g.K.Sink.written c.args.sink.now) c.args.meter.now (script_texts c.args.lines.now) place c.line.new.self c.line.new.told (g.K.Sink.written c.line.new.sink) c.line.new.meter) next
          (goes_on g.C.NodeController.seen (g.N.PolicyChoice.chosen c.args.choice.now) c.args.told.now.writer (g.K.Sink.written c.args.sink.now) c.args.meter.now (script_texts c.args.lines.now) c.loop-place.place
          c.in-Some.text.now (sym c.in-Some.ensures) c.line.new.self c.line.new.told (g.K.Sink.written c.line.new.sink) c.line.new.meter
          (subst (λ (o : Option Refused). GoesOn g.C.NodeController.seen known report_tale (g.N.PolicyChoice.chosen c.args.choice.now) string_says c.args.told.now.writer (g.K.Sink.written c.args.sink.now) c.args.meter.now (take c.loop-place.place (script_texts c.args.lines.now)) c.in-Some.text.now (Ok o) c.line.new.self c.line.new.told (g.K.Sink.written c.line.new.sink) c.line.new.meter) none
          (c.in_ok-refused.ensures.along c.args.told.now.writer (g.K.Sink.written c.args.sink.now) c.args.meter.now (take c.loop-place.place (script_texts c.args.lines.now)) c.loop-place.invariant.along)));
      room = stays_then _ _ _ c.loop-place.invariant.room c.in_ok-refused.ensures.room;
      faults = c.in_ok-refused.ensures.faults ∙ c.loop-place.invariant.faults;
    }

pub returns-clause-comes : goal.returns-clause-comes
returns-clause-comes g c =
    ends g.C.NodeController.seen (g.N.PolicyChoice.chosen c.args.choice.now) c.args.told.now.writer (g.K.Sink.written c.args.sink.now) c.args.meter.now (script_texts c.args.lines.now) c.loop-place.place
    (omega (arith, c.loop-place-test.false, c.script_len-place-end.ensures)) c.loop-place.replay c.loop-place.told (g.K.Sink.written c.loop-place.sink) c.loop-place.meter c.loop-place.invariant.along
