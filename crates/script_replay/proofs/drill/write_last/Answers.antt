use Rattle.std.proofs.Common.{ap}
use Rattle.lab_io.specs.Report.{Writer}
use Rattle.script_model.specs.Reports.{last_line}
use Rattle.script_replay.proofs.DrillTakings.{last_is, put_err, put_ok}
use Rattle.script_replay.proofs.drill.write_last.Goals as goal
use Rattle.script_replay.proofs.drill.write_last.Goals.{in-Ok, in-Err}

pub returns-clause-written : goal.returns-clause-written
returns-clause-written g c = λ script placed whole.
    let choice = g.N.PolicyChoice.chosen c.args.choice.now in
    let same = last_is g.C.NodeController.seen choice script placed c.args.refused c.args.replay.now whole in
    let put = c.end.ensures.put script placed whole in
    c.settle.ensures.written c.in_ok-writer.writer (g.K.Sink.written c.args.sink.now) (last_line (choice script.topology) script) (ap (λ (w : Writer). w.held) c.in_ok-writer.ensures)
    (elim c.match-end.branch [
      | in-Ok w ↦ put_ok c.end.result c.match-end.outcome c.in_ok-writer.writer c.end.new.told.writer (g.K.Sink.written c.args.sink.now) (g.K.Sink.written c.end.new.sink) _ _ same put w.in-Ok.field-0 c.args.refused w.in-Ok.is w.outcome-is
      | in-Err w ↦ put_err c.end.result c.match-end.outcome c.in_ok-writer.writer c.end.new.told.writer (g.K.Sink.written c.args.sink.now) (g.K.Sink.written c.end.new.sink) _ _ same put w.in-Err.stop w.in-Err.is w.outcome-is
    ])
