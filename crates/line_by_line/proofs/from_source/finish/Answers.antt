use Rattle.std.proofs.Common.{◌≡◌, ◌∙◌, Result, Err, ap, subst}
use Rattle.line_by_line.specs.declared.fault.LineFault.{LineFault}
use Rattle.line_by_line.specs.declared.fault.LineFault.TheVariants.{Write, OutOfMemory}
use Rattle.line_by_line.specs.Reading.{Finishes}
use Rattle.line_by_line.proofs.Finishing.{done, stopped_memory, stopped_unwritten, stopped_write, unwritten}
use Rattle.line_by_line.proofs.from_source.finish.Goals as goal

pub returns-in-Ok-flush-clause-finished : goal.returns-in-Ok-flush-clause-finished
returns-in-Ok-flush-clause-finished g c = λ account first start from left bare few f.
    let s = subst (λ (r : Result g.row.O.Denot LineFault). Finishes account first start from r c.args.writer.now left (g.K.Sink.written c.args.sink.now)) c.in-Ok.is f in
    done first bare start account from left c.in-Ok.outcome c.args.writer.now (g.K.Sink.written c.args.sink.now) (g.K.Sink.written c.flush.new.sink) s c.in-Ok-flush.ensures.written

pub returns-in-Err-clause-finished : goal.returns-in-Err-clause-finished
returns-in-Err-clause-finished g c = λ account first start from left bare few f.
    let s = subst (λ (r : Result g.row.O.Denot LineFault). Finishes account first start from r c.args.writer.now left (g.K.Sink.written c.args.sink.now)) c.in-Ok.is f in
    unwritten first bare start account from left c.in-Ok.outcome c.args.writer.now (g.K.Sink.written c.args.sink.now) (g.K.Sink.written c.flush.new.sink) s c.in-Err.ensures.failed.1

pub returns-in-Ok-flush-2-clause-finished : goal.returns-in-Ok-flush-2-clause-finished
returns-in-Ok-flush-2-clause-finished g c = λ account first start from left bare few f.
    let is : c.args.outcome ≡ Err (OutOfMemory c.in-Err-OutOfMemory.error) = c.in-Err-OutOfMemory.is ∙ ap Err (rw c.in-Err-OutOfMemory.is at c.in-Err-OutOfMemory.field-0-is) in
    let s = subst (λ (r : Result g.row.O.Denot LineFault). Finishes account first start from r c.args.writer.now left (g.K.Sink.written c.args.sink.now)) is f in
    stopped_memory first bare start account from left c.in-Err-OutOfMemory.error c.args.writer.now (g.K.Sink.written c.args.sink.now) (g.K.Sink.written c.flush-in-Err-OutOfMemory.new.sink) s c.in-Ok-flush-2.ensures.written

pub returns-in-Err-flush-clause-finished : goal.returns-in-Err-flush-clause-finished
returns-in-Err-flush-clause-finished g c = λ account first start from left bare few f.
    let is : c.args.outcome ≡ Err (OutOfMemory c.in-Err-OutOfMemory.error) = c.in-Err-OutOfMemory.is ∙ ap Err (rw c.in-Err-OutOfMemory.is at c.in-Err-OutOfMemory.field-0-is) in
    let s = subst (λ (r : Result g.row.O.Denot LineFault). Finishes account first start from r c.args.writer.now left (g.K.Sink.written c.args.sink.now)) is f in
    stopped_unwritten first bare start account from left c.in-Err-OutOfMemory.error c.args.writer.now (g.K.Sink.written c.args.sink.now) (g.K.Sink.written c.flush-in-Err-OutOfMemory.new.sink) s c.in-Err-flush.ensures.failed.1

pub returns-in-Err-Write-clause-finished : goal.returns-in-Err-Write-clause-finished
returns-in-Err-Write-clause-finished g c = λ account first start from left bare few f.
    let is : c.args.outcome ≡ Err Write = c.in-Err-Write.is ∙ ap Err (rw c.in-Err-Write.is at c.in-Err-Write.field-0-is) in
    let s = subst (λ (r : Result g.row.O.Denot LineFault). Finishes account first start from r c.args.writer.now left (g.K.Sink.written c.args.sink.now)) is f in
    stopped_write first bare start account from left c.args.writer.now (g.K.Sink.written c.args.sink.now) s
