use Rattle.std.proofs.Common.{◌≡◌, ◌∙◌, Result, Option, Err, ap, subst, sym}
use Rattle.script_model.specs.declared.refusal.Refused.{Refused}
use Rattle.line_by_line.specs.declared.fault.LineFault.{LineFault}
use Rattle.line_by_line.specs.declared.fault.LineFault.TheVariants.{Read, Write, OutOfMemory}
use Rattle.script_replay.specs.Report.{IsDone}
use Rattle.script_replay.specs.Reading.{Tells}
use Rattle.script_replay.proofs.Finishing.{cut_off, done, stopped_memory, stopped_unwritten, stopped_write, told_unwritten}
use Rattle.script_replay.proofs.from_source.finish.Goals as goal

pub returns-in-Ok-finish-clause-finished : goal.returns-in-Ok-finish-clause-finished
returns-in-Ok-finish-clause-finished g c = λ choice account body first start from left before meter bare few tells.
    let tells = subst (λ (r : Result (Option Refused) LineFault). Tells choice account body first start before from r c.args.run.told.writer left (g.K.Sink.written c.args.sink.now) meter) c.in-Ok.is tells in
    subst (IsDone choice account from left start (g.K.Sink.written c.finish.new.sink) before meter) (sym c.is_some.ensures)
    (done first bare start choice account body before from left meter c.in-Ok.refused c.args.run.told.writer (g.K.Sink.written c.args.sink.now) (g.K.Sink.written c.finish.new.sink) tells c.in-Ok-finish.ensures.written)

pub returns-in-Err-clause-finished : goal.returns-in-Err-clause-finished
returns-in-Err-clause-finished g c = λ choice account body first start from left before meter bare few tells.
    let tells = subst (λ (r : Result (Option Refused) LineFault). Tells choice account body first start before from r c.args.run.told.writer left (g.K.Sink.written c.args.sink.now) meter) c.in-Ok.is tells in
    told_unwritten first bare start choice account body before from left meter c.in-Ok.refused c.args.run.told.writer (g.K.Sink.written c.args.sink.now) (g.K.Sink.written c.finish.new.sink) tells c.in-Err.ensures.failed

pub returns-in-Ok-finish-2-clause-finished : goal.returns-in-Ok-finish-2-clause-finished
returns-in-Ok-finish-2-clause-finished g c = λ choice account body first start from left before meter bare few tells.
    let is : c.args.outcome ≡ Err (OutOfMemory c.in-Err-OutOfMemory.error) = c.in-Err-OutOfMemory.is ∙ ap Err (rw c.in-Err-OutOfMemory.is at c.in-Err-OutOfMemory.field-0-is) in
    let tells = subst (λ (r : Result (Option Refused) LineFault). Tells choice account body first start before from r c.args.run.told.writer left (g.K.Sink.written c.args.sink.now) meter) is tells in
    stopped_memory first bare start choice account body before from left meter c.in-Err-OutOfMemory.error c.args.run.told.writer (g.K.Sink.written c.args.sink.now) (g.K.Sink.written c.finish-in-Err-OutOfMemory.new.sink) tells c.in-Ok-finish-2.ensures.written

pub returns-in-Err-finish-clause-finished : goal.returns-in-Err-finish-clause-finished
returns-in-Err-finish-clause-finished g c = λ choice account body first start from left before meter bare few tells.
    let is : c.args.outcome ≡ Err (OutOfMemory c.in-Err-OutOfMemory.error) = c.in-Err-OutOfMemory.is ∙ ap Err (rw c.in-Err-OutOfMemory.is at c.in-Err-OutOfMemory.field-0-is) in
    let tells = subst (λ (r : Result (Option Refused) LineFault). Tells choice account body first start before from r c.args.run.told.writer left (g.K.Sink.written c.args.sink.now) meter) is tells in
    stopped_unwritten first bare start choice account body before from left meter c.in-Err-OutOfMemory.error c.args.run.told.writer (g.K.Sink.written c.args.sink.now) (g.K.Sink.written c.finish-in-Err-OutOfMemory.new.sink) tells c.in-Err-finish.ensures.failed

pub returns-in-Err-Read-clause-finished : goal.returns-in-Err-Read-clause-finished
returns-in-Err-Read-clause-finished g c = λ choice account body first start from left before meter bare few tells.
    let is : c.args.outcome ≡ Err Read = c.in-Err-Read.is ∙ ap Err (rw c.in-Err-Read.is at c.in-Err-Read.field-0-is) in
    let tells = subst (λ (r : Result (Option Refused) LineFault). Tells choice account body first start before from r c.args.run.told.writer left (g.K.Sink.written c.args.sink.now) meter) is tells in
    cut_off first bare start choice account body before from left meter c.args.run.told.writer (g.K.Sink.written c.args.sink.now) few tells

pub returns-in-Err-Write-clause-finished : goal.returns-in-Err-Write-clause-finished
returns-in-Err-Write-clause-finished g c = λ choice account body first start from left before meter bare few tells.
    let is : c.args.outcome ≡ Err Write = c.in-Err-Write.is ∙ ap Err (rw c.in-Err-Write.is at c.in-Err-Write.field-0-is) in
    let tells = subst (λ (r : Result (Option Refused) LineFault). Tells choice account body first start before from r c.args.run.told.writer left (g.K.Sink.written c.args.sink.now) meter) is tells in
    stopped_write first bare start choice account body before from left meter c.args.run.told.writer (g.K.Sink.written c.args.sink.now) tells
