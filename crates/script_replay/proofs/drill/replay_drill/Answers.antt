use Rattle.std.proofs.Common.{ap}
use Rattle.script_model.specs.Drill.{drill_script}
use Rattle.script_replay.specs.Drill.{report_by}
use Rattle.script_replay.proofs.DrillTakings.{ends_unwritten, ends_with}
use Rattle.script_replay.proofs.drill.replay_drill.Goals as goal
use Rattle.script_replay.proofs.drill.replay_drill.Goals.{in-Ok, in-Err}

pub returns-clause-written : goal.returns-clause-written
returns-clause-written g c =
    let report = report_by (g.N.PolicyChoice.chosen c.args.choice.now) (drill_script c.args.drill) in
    elim c.match-take_lines.branch [
      | in-Ok w ↦ ends_with c.match-take_lines.outcome w.write_last-outcome.result (g.K.Sink.written c.args.sink.now) (g.K.Sink.written w.write_last-outcome.new.sink) (g.K.Sink.written c.match-take_lines.sink) report
          w.outcome-is (ap g.K.Sink.written w.sink-is) (w.write_last-outcome.ensures.written (drill_script c.args.drill) w.in-Ok.ensures.whole.0 w.in-Ok.ensures.whole.1)
      | in-Err w ↦ ends_unwritten c.match-take_lines.outcome w.in-Err.stop (g.K.Sink.written c.args.sink.now) (g.K.Sink.written c.match-take_lines.sink) report
          w.outcome-is (ap g.K.Sink.written w.sink-is)
    ]
