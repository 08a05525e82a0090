use Rattle.std.proofs.Common.{◌≡◌, ◌⊎◌, None, Some, subst}
use Rattle.commands.specs.declared.task.Task.{Task}
use Rattle.commands.specs.declared.task.Task.TheVariants.{Drill}
use Rattle.commands.specs.Ending.{status_of}
use Rattle.commands.specs.Run.{InUsage, InReport, InTask, KeepsMeter}
use Rattle.commands.specs.Task.{IsTaskOf}
use Rattle.commands.proofs.Asked.{asks_for, asks_for_none, asks_for_one}
use Rattle.commands.proofs.Inputs.{still}
use Rattle.commands.proofs.command.run.Goals as goal

pub returns-in-Ok-clause-usage : goal.returns-in-Ok-clause-usage
returns-in-Ok-clause-usage g c =
    let is : IsTaskOf c.args.words.now None = subst (IsTaskOf c.args.words.now) (cc) c.in-Ok-None.ensures in
    λ e. (asks_for_none c.args.words.now is, c.in-Ok.ensures.ok)

pub returns-in-Ok-clause-complete : goal.returns-in-Ok-clause-complete
returns-in-Ok-clause-complete g c =
    let is : IsTaskOf c.args.words.now None = subst (IsTaskOf c.args.words.now) (cc) c.in-Ok-None.ensures in
    λ task input asks told read write. absurd (asks_for_none c.args.words.now is task asks)

pub returns-in-Err-write_usage-clause-cut : goal.returns-in-Err-write_usage-clause-cut
returns-in-Err-write_usage-clause-cut g c =
    let is : IsTaskOf c.args.words.now None = subst (IsTaskOf c.args.words.now) (cc) c.in-Ok-None.ensures in
    λ e. InUsage (asks_for_none c.args.words.now is) c.in-Err-write_usage.ensures.front

pub returns-in-Ok-Some-clause-cut : goal.returns-in-Ok-Some-clause-cut
returns-in-Ok-Some-clause-cut g c =
    let is : IsTaskOf c.args.words.now (Some c.in-Ok-Some.task) = subst (IsTaskOf c.args.words.now) (cc) c.in-Ok-Some.ensures in
    λ e. InReport c.in-Ok-Some.task (asks_for c.args.words.now c.in-Ok-Some.task is) (c.task_status.ensures.cut e)

pub returns-in-Ok-Some-clause-given_up : goal.returns-in-Ok-Some-clause-given_up
returns-in-Ok-Some-clause-given_up g c =
    let is : IsTaskOf c.args.words.now (Some c.in-Ok-Some.task) = subst (IsTaskOf c.args.words.now) (cc) c.in-Ok-Some.ensures in
    λ e. InTask c.in-Ok-Some.task (asks_for c.args.words.now c.in-Ok-Some.task is) (c.task_status.ensures.want e)

pub returns-in-Ok-Some-clause-complete : goal.returns-in-Ok-Some-clause-complete
returns-in-Ok-Some-clause-complete g c =
    let is : IsTaskOf c.args.words.now (Some c.in-Ok-Some.task) = subst (IsTaskOf c.args.words.now) (cc) c.in-Ok-Some.ensures in
    λ task input asks told read write.
    subst (λ (t : Task). (c.task_status.result ≡ status_of t input) ⊎ (c.task_status.result ≡ 5)) (asks_for_one c.args.words.now c.in-Ok-Some.task task is asks)
    (c.task_status.ensures.complete input told read write)

pub returns-in-Ok-Some-clause-undrilled : goal.returns-in-Ok-Some-clause-undrilled
returns-in-Ok-Some-clause-undrilled g c =
    let is : IsTaskOf c.args.words.now (Some c.in-Ok-Some.task) = subst (IsTaskOf c.args.words.now) (cc) c.in-Ok-Some.ensures in
    λ number asks. c.task_status.ensures.undrilled number (asks_for_one c.args.words.now c.in-Ok-Some.task (Drill number) is asks)

pub returns-in-Err-clause-metered : goal.returns-in-Err-clause-metered
returns-in-Err-clause-metered g c = λ task asks. still task _ c.args.meter.now

pub returns-in-Ok-clause-metered : goal.returns-in-Ok-clause-metered
returns-in-Ok-clause-metered g c = λ task asks. still task _ c.args.meter.now

pub returns-in-Err-write_usage-clause-metered : goal.returns-in-Err-write_usage-clause-metered
returns-in-Err-write_usage-clause-metered g c = λ task asks. still task _ c.args.meter.now

pub returns-in-Ok-Some-clause-metered : goal.returns-in-Ok-Some-clause-metered
returns-in-Ok-Some-clause-metered g c =
    let is : IsTaskOf c.args.words.now (Some c.in-Ok-Some.task) = subst (IsTaskOf c.args.words.now) (cc) c.in-Ok-Some.ensures in
    λ task asks.
    subst (λ (t : Task). KeepsMeter t (g.S.Source.left c.args.source.now) c.args.meter.now c.task_status.new.meter) (asks_for_one c.args.words.now c.in-Ok-Some.task task is asks) c.task_status.ensures.metered
