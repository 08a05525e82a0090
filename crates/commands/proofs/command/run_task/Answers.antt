use Rattle.std.proofs.Common.{◌≡◌, List, Some, subst}
use Rattle.std.specs.Prelude.{IfOk, ℕ}
use Rattle.std.proofs.lemmas.Result.{IfOk-weaker}
use Rattle.line_by_line.specs.declared.task.Ending.{Ending}
use Rattle.commands.specs.declared.task.Task.{Task}
use Rattle.commands.specs.declared.task.Task.TheVariants.{Drill}
use Rattle.commands.specs.Ending.{task_ending}
use Rattle.commands.specs.Run.{HasRun, KeepsMeter}
use Rattle.commands.proofs.command.run_task.Goals as goal

pub returns-in-Drill-clause-ran : goal.returns-in-Drill-clause-ran
returns-in-Drill-clause-ran g c =
    let is : Drill c.in-Drill.number ≡ c.args.task = cc in
    subst (λ (t : Task). HasRun t (g.S.Source.left c.args.source.now) (g.S.Source.left c.args.source.now) (g.K.Sink.written c.args.sink.now) (g.K.Sink.written c.run_drill.new.sink) c.args.meter.now c.run_drill.new.meter c.run_drill.result) is
    (record { done = c.run_drill.ensures.done (g.S.Source.left c.args.source.now); left = c.run_drill.ensures.left (g.S.Source.left c.args.source.now) })

pub returns-in-Drill-clause-complete : goal.returns-in-Drill-clause-complete
returns-in-Drill-clause-complete g c =
    let is : Drill c.in-Drill.number ≡ c.args.task = cc in
    subst (λ (t : Task). IfOk c.run_drill.result (λ (ending : Ending). (input : List ℕ) → g.S.Source.left c.args.source.now ≡ Some input → ending ≡ task_ending t input)) is
    (IfOk-weaker c.run_drill.result _ _ (λ ending all input told. all input) c.run_drill.ensures.complete)

pub returns-in-Drill-clause-metered : goal.returns-in-Drill-clause-metered
returns-in-Drill-clause-metered g c =
    let is : Drill c.in-Drill.number ≡ c.args.task = cc in
    subst (λ (t : Task). KeepsMeter t (g.S.Source.left c.args.source.now) c.args.meter.now c.run_drill.new.meter) is (c.run_drill.ensures.metered (g.S.Source.left c.args.source.now))
