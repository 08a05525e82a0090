use Rattle.std.proofs.Common.{sym, subst}
use Rattle.world.specs.declared.counts.Meter.{Meter}
use Rattle.world_model.specs.Topology.{policy_of}
use Rattle.script_replay.specs.Report.{IsMeteredFrom}
use Rattle.commands.specs.declared.task.Task.TheVariants as Task
use Rattle.commands.specs.declared.task.View.TheVariants.{Show}
use Rattle.commands.specs.Run.{HasRun}
use Rattle.commands.proofs.Failing.{view_fails}
use Rattle.commands.proofs.views.run_view.Goals as goal
use Rattle.commands.proofs.views.run_view.Goals.{in-Trace+in_ok-refused-in-Trace, in-Show+in_ok-refused-in-Show, in-Journal+in_ok-refused-in-Journal, in-Capture+in_ok-refused-in-Capture}

pub returns-clause-metered : goal.returns-clause-metered
returns-clause-metered g c =
    let IsMetered = λ (m : Meter). IsMeteredFrom policy_of (g.S.Source.left c.args.source.now) c.args.meter.now m in
    elim c.match-view.branch [
      | in-Trace+in_ok-refused-in-Trace w ↦ subst IsMetered (sym w.meter-is) w.tell_script.ensures.metered
      | in-Show+in_ok-refused-in-Show w ↦ subst IsMetered (sym w.meter-is) w.tell_script-in-Show.ensures.metered
      | in-Journal+in_ok-refused-in-Journal w ↦ subst IsMetered (sym w.meter-is) w.tell_script-in-Journal.ensures.metered
      | in-Capture+in_ok-refused-in-Capture w ↦ subst IsMetered (sym w.meter-is) w.tell_script-in-Capture.ensures.metered
    ]

pub returns-in_err-refused-in-Show-clause-ran : goal.returns-in_err-refused-in-Show-clause-ran
returns-in_err-refused-in-Show-clause-ran g c =
    let fails = c.from_residual-in_err-refused-in-Show in
    subst (λ view. HasRun (Task.View view) (g.S.Source.left c.args.source.now) (g.S.Source.left c.tell_script-in-Show.new.source) (g.K.Sink.written c.args.sink.now) (g.K.Sink.written c.tell_script-in-Show.new.sink) c.args.meter.now c.tell_script-in-Show.new.meter fails.result) (sym c.in-Show.is)
    (view_fails Show c.in_err-refused-in-Show.field-0.0 fails.result _ _ _ _ _ _ fails.ensures.1 c.in_err-refused-in-Show.ensures.left)
