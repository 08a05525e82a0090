use Rattle.std.proofs.Common.{◌∙◌, drop, refl, suc, subst, take}
use Rattle.lab_io.specs.Report.{IsPut}
use Rattle.record_text.specs.script_model.Records.{record_line}
use Rattle.record_text.specs.script_model.Reports.{record_lines}
use Rattle.lab_io.specs.Puts.{Puts}
use Rattle.lab_io.proofs.Stops.{nothing_put, put_then, stays, stays_then, stops_at}
use Rattle.tell_report.proofs.RecordLines.{lines_behind, lines_next}
use Rattle.tell_report.proofs.lines.put_records.Goals as goal

pub returns-in_err-put_record-clause-put : goal.returns-in_err-put_record-clause-put
returns-in_err-put_record-clause-put g c =
    let t = c.args.names.now in
    let item = c.item-item.result in
    subst (Puts c.from_residual.result c.args.writer.now c.put_record.new.writer (g.K.Sink.written c.args.sink.now) (g.K.Sink.written c.put_record.new.sink)) (lines_behind t c.args.records.now c.loop-item.item-index item c.loop-item-test.true c.item-item.is)
    (stops_at c.from_residual.result _ c.args.writer.now c.loop-item.writer c.put_record.new.writer (g.K.Sink.written c.args.sink.now) (g.K.Sink.written c.loop-item.sink) (g.K.Sink.written c.put_record.new.sink)
    (record_lines t (take c.loop-item.item-index c.args.records.now)) (record_line t item) (record_lines t (drop (suc c.loop-item.item-index) c.args.records.now)) c.from_residual.ensures.1 c.loop-item.invariant.put c.in_err-put_record.ensures.put)

pub returns-in_err-put_record-clause-room : goal.returns-in_err-put_record-clause-room
returns-in_err-put_record-clause-room g c = stays_then _ _ _ c.loop-item.invariant.room c.in_err-put_record.ensures.room

pub loop-item-init : goal.loop-item-init
loop-item-init g c = record { put = nothing_put _ _; room = stays _; faults = refl }

pub loop-item-preserved : goal.loop-item-preserved
loop-item-preserved g c =
    let t = c.args.names.now in
    let item = c.item-item.result in
    record {
      put = subst (IsPut c.args.writer.now c.put_record.new.writer (g.K.Sink.written c.args.sink.now) (g.K.Sink.written c.put_record.new.sink)) (lines_next t c.args.records.now c.loop-item.item-index item c.loop-item-test.true c.item-item.is)
          (put_then c.args.writer.now c.loop-item.writer c.put_record.new.writer (g.K.Sink.written c.args.sink.now) (g.K.Sink.written c.loop-item.sink) (g.K.Sink.written c.put_record.new.sink)
          (record_lines t (take c.loop-item.item-index c.args.records.now)) (record_line t item) c.loop-item.invariant.put c.in_ok-put_record.ensures.put);
      room = stays_then _ _ _ c.loop-item.invariant.room c.in_ok-put_record.ensures.room;
      faults = c.in_ok-put_record.ensures.faults ∙ c.loop-item.invariant.faults;
    }
