use Rattle.std.proofs.Common.{◌≡◌, ◌∙◌, Option, Result, Ok, Err, ap, subst}
use Rattle.script_model.specs.declared.refusal.Refused.{Refused}
use Rattle.lab_io.specs.declared.stop.Stop.{Stop}
use Rattle.lab_io.specs.declared.stop.Stop.TheVariants.{Failed, OutOfMemory}
use Rattle.lab_io.specs.Puts.{Puts}
use Rattle.network_replay.proofs.Ending.{ends_cut, front_cut, front_written, stuck_front, whole_cut}
use Rattle.network_replay.proofs.held.settle.Goals as goal

pub returns-in_err-flush-in-Ok-clause-written : goal.returns-in_err-flush-in-Ok-clause-written
returns-in_err-flush-in-Ok-clause-written g c = λ first start report empty put.
    let is : c.args.outcome ≡ Ok c.in-Ok.refused = cc in
    ends_cut c.from_residual.result _ c.from_residual.ensures.1 start _ report
    (whole_cut first c.args.writer.now start (g.K.Sink.written c.args.sink.now) (g.K.Sink.written c.flush.new.sink) report empty
    (subst (λ (o : Result (Option Refused) Stop). Puts o first c.args.writer.now start (g.K.Sink.written c.args.sink.now) report) is put) c.in_err-flush-in-Ok.ensures.failed.1)

pub returns-in-Ok-flush-clause-written : goal.returns-in-Ok-flush-clause-written
returns-in-Ok-flush-clause-written g c = λ first start report empty put.
    let is : c.args.outcome ≡ Err (OutOfMemory c.in-Err-OutOfMemory.error) = c.in-Err-OutOfMemory.is ∙ ap Err (rw c.in-Err-OutOfMemory.is at c.in-Err-OutOfMemory.field-0-is) in
    front_written first c.args.writer.now start (g.K.Sink.written c.args.sink.now) (g.K.Sink.written c.flush-in-Err-OutOfMemory.new.sink) report empty
    (subst (λ (o : Result (Option Refused) Stop). Puts o first c.args.writer.now start (g.K.Sink.written c.args.sink.now) report) is put) c.in-Ok-flush.ensures.written

pub returns-in-Err-clause-written : goal.returns-in-Err-clause-written
returns-in-Err-clause-written g c = λ first start report empty put.
    let is : c.args.outcome ≡ Err (OutOfMemory c.in-Err-OutOfMemory.error) = c.in-Err-OutOfMemory.is ∙ ap Err (rw c.in-Err-OutOfMemory.is at c.in-Err-OutOfMemory.field-0-is) in
    front_cut first c.args.writer.now start (g.K.Sink.written c.args.sink.now) (g.K.Sink.written c.flush-in-Err-OutOfMemory.new.sink) report empty
    (subst (λ (o : Result (Option Refused) Stop). Puts o first c.args.writer.now start (g.K.Sink.written c.args.sink.now) report) is put) c.in-Err.ensures.failed.1

pub returns-in-Err-Failed-clause-written : goal.returns-in-Err-Failed-clause-written
returns-in-Err-Failed-clause-written g c = λ first start report empty put.
    let is : c.args.outcome ≡ Err Failed = c.in-Err-Failed.is ∙ ap Err (rw c.in-Err-Failed.is at c.in-Err-Failed.field-0-is) in
    stuck_front first c.args.writer.now start (g.K.Sink.written c.args.sink.now) (g.K.Sink.written c.args.sink.now) report empty
    (subst (λ (o : Result (Option Refused) Stop). Puts o first c.args.writer.now start (g.K.Sink.written c.args.sink.now) report) is put)
