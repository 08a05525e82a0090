use Rattle.std.proofs.Common.{◌∙◌, drop, refl, suc, subst, take}
use Rattle.lab_io.specs.Report.{IsPut}
use Rattle.lab_io.specs.Puts.{Puts}
use Rattle.lab_io.proofs.Stops.{nothing_put, put_then, stays, stays_then, stops_at}
use Rattle.tell_trace.specs.Passages.{passage_lines}
use Rattle.tell_trace.specs.Trace.{bind_told}
use Rattle.tell_trace.proofs.Along.{found}
use Rattle.tell_trace.proofs.Told.{bindings_lines, next_binding, rest_bindings}
use Rattle.tell_trace.proofs.tell.tell_bindings.Goals as goal

pub returns-in_err-tell_binding-clause-put : goal.returns-in_err-tell_binding-clause-put
returns-in_err-tell_binding-clause-put g c =
    let t = c.args.names.now in
    let records = c.args.records.now in
    let i = c.loop-item.item-index in
    let item = c.item-item.result in
    subst (Puts c.from_residual.result c.args.writer.now c.tell_binding.new.writer (g.K.Sink.written c.args.sink.now) (g.K.Sink.written c.tell_binding.new.sink))
    (rest_bindings t records i item (found records i item c.loop-item-test.true c.item-item.is))
    (stops_at c.from_residual.result _ c.args.writer.now c.loop-item.writer c.tell_binding.new.writer (g.K.Sink.written c.args.sink.now) (g.K.Sink.written c.loop-item.sink) (g.K.Sink.written c.tell_binding.new.sink)
    (bindings_lines t (take i records)) (passage_lines t (bind_told item)) (bindings_lines t (drop (suc i) records)) c.from_residual.ensures.1 c.loop-item.invariant.put c.in_err-tell_binding.ensures.put)

pub returns-in_err-tell_binding-clause-room : goal.returns-in_err-tell_binding-clause-room
returns-in_err-tell_binding-clause-room g c = stays_then _ _ _ c.loop-item.invariant.room c.in_err-tell_binding.ensures.room

pub loop-item-init : goal.loop-item-init
loop-item-init g c = record { put = nothing_put _ _; room = stays _; faults = refl }

pub loop-item-preserved : goal.loop-item-preserved
loop-item-preserved g c =
    let t = c.args.names.now in
    let records = c.args.records.now in
    let i = c.loop-item.item-index in
    let item = c.item-item.result in
    record {
      put = subst (IsPut c.args.writer.now c.tell_binding.new.writer (g.K.Sink.written c.args.sink.now) (g.K.Sink.written c.tell_binding.new.sink))
          (next_binding t records i item (found records i item c.loop-item-test.true c.item-item.is))
          (put_then c.args.writer.now c.loop-item.writer c.tell_binding.new.writer (g.K.Sink.written c.args.sink.now) (g.K.Sink.written c.loop-item.sink) (g.K.Sink.written c.tell_binding.new.sink)
          (bindings_lines t (take i records)) (passage_lines t (bind_told item)) c.loop-item.invariant.put c.in_ok-tell_binding.ensures.put);
      room = stays_then _ _ _ c.loop-item.invariant.room c.in_ok-tell_binding.ensures.room;
      faults = c.in_ok-tell_binding.ensures.faults ∙ c.loop-item.invariant.faults;
    }
