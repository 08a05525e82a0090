use Rattle.std.proofs.Common.{◌≡◌, ◌∙◌, ap, subst}
use Rattle.lab_io.specs.Report.{IsPut}
use Rattle.world_model.specs.World.{Counts, counts_of}
use Rattle.record_text.specs.script_model.Reports.{end_line, last_line_by}
use Rattle.world.specs.Network.{no_notes, world_of}
use Rattle.lab_io.specs.declared.stop.Stop.TheVariants.{Failed}
use Rattle.lab_io.specs.Puts.{Puts}
use Rattle.lab_io.proofs.Stops.{passes_on}
use Rattle.tell_report.proofs.report.ReportPartsEndTeller.tell_end.Goals as goal

pub returns-in_err-put-clause-put : goal.returns-in_err-put-clause-put
returns-in_err-put-clause-put g c =
    let counts : c.counts.result ≡ counts_of (world_of g.C.NodeController.seen c.args.world.now no_notes) = c.counts.ensures c.args._names.now c.requires in
    let line : c.as_slice.result.now ≡ last_line_by (end_line c.args.ended.event_lines (counts_of (world_of g.C.NodeController.seen c.args.world.now no_notes))) c.args.ended.refused =
    c.as_slice.ensures ∙ c.in_ok-line.ensures ∙ ap (λ (n : Counts). last_line_by (end_line c.args.ended.event_lines n) c.args.ended.refused) counts in
    subst (Puts c.from_residual-in_err-put.result c.args.writer.now c.put.new.self (g.K.Sink.written c.args.sink.now) (g.K.Sink.written c.put.new.sink)) line
    (passes_on c.from_residual-in_err-put.result Failed c.args.writer.now c.put.new.self (g.K.Sink.written c.args.sink.now) (g.K.Sink.written c.put.new.sink) c.as_slice.result.now c.from_residual-in_err-put.ensures.1 c.in_err-put.ensures.failed)

pub returns-clause-put : goal.returns-clause-put
returns-clause-put g c =
    let counts : c.counts.result ≡ counts_of (world_of g.C.NodeController.seen c.args.world.now no_notes) = c.counts.ensures c.args._names.now c.requires in
    let line : c.as_slice.result.now ≡ last_line_by (end_line c.args.ended.event_lines (counts_of (world_of g.C.NodeController.seen c.args.world.now no_notes))) c.args.ended.refused =
    c.as_slice.ensures ∙ c.in_ok-line.ensures ∙ ap (λ (n : Counts). last_line_by (end_line c.args.ended.event_lines n) c.args.ended.refused) counts in
    subst (IsPut c.args.writer.now c.put.new.self (g.K.Sink.written c.args.sink.now) (g.K.Sink.written c.put.new.sink)) line c.in_ok-put.ensures.ok
