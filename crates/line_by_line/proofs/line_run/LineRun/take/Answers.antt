use Rattle.std.proofs.Common.{◌∙◌, List, ℕ, ◌∷◌, [], Result, Ok, ap, drop, refl, subst, sym, take}
use Rattle.line_by_line.specs.declared.fault.LineFault.{LineFault}
use Rattle.line_by_line.specs.declared.line_run.LineRun.{LineRun}
use Rattle.line_by_line.specs.declared.task.Step.{Step}
use Rattle.line_by_line.specs.Account.{caused}
use Rattle.lab_io.specs.Puts.{StopsIn}
use Rattle.line_by_line.specs.Steps.{GoesOn, Settles}
use Rattle.line_by_line.specs.Reading.{Advances, Halts, ends_line}
use Rattle.line_by_line.proofs.Advancing.{halts, last_advances, taken_ends, taken_goes, taken_stopped}
use Rattle.line_by_line.proofs.line_run.LineRun.take.Goals as goal

pub returns-in-Ok-Goes-clause-taken : goal.returns-in-Ok-Goes-clause-taken
returns-in-Ok-Goes-clause-taken g c = λ account first start from left h.
    let now = g.T.LineTask.account c.args.task.now in
    let behind = g.T.LineTask.account c.line.new.self in
    let written = g.K.Sink.written c.args.sink.now in
    let then = g.K.Sink.written c.line.new.sink in
    let run = c.args.self.now in
    let line : List ℕ = take c.args.len (drop c.args.place run.reader.buffer) in
    let goes : GoesOn now behind c.line_at-line.result.now run.writer c.line.new.writer written then = rw c.in-Ok-Goes.field-0-is at c.in-Ok-Goes.ensures.taken in
    taken_goes account first start from line now run left written h behind (record { reader = run.reader; writer = c.line.new.writer }) then
    (ap ends_line (sym c.line_at-line.ensures) ∙ sym c.ends_line-has_end.ensures ∙ c.if-has_end.true) refl
    (subst (λ (xs : List ℕ). GoesOn now behind xs run.writer c.line.new.writer written then) c.line_at-line.ensures goes)

pub returns-in-Ok-Goes-2-clause-taken : goal.returns-in-Ok-Goes-2-clause-taken
returns-in-Ok-Goes-2-clause-taken g c = λ account first start from left h.
    let now = g.T.LineTask.account c.args.task.now in
    let behind = g.T.LineTask.account c.line.new.self in
    let after = g.T.LineTask.account c.end.new.self in
    let written = g.K.Sink.written c.args.sink.now in
    let between = g.K.Sink.written c.line.new.sink in
    let then = g.K.Sink.written c.end.new.sink in
    let run = c.args.self.now in
    let later : LineRun = record { reader = run.reader; writer = c.end.new.writer } in
    let line : List ℕ = take c.args.len (drop c.args.place run.reader.buffer) in
    let goes : GoesOn now behind c.line_at-line.result.now run.writer c.line.new.writer written between = rw c.in-Ok-Goes.field-0-is at c.in-Ok-Goes.ensures.taken in
    subst (λ (r : Result (Step g.row.T-Outcome.Denot) LineFault). Advances account first start from r after later left then) (sym c.ended.ensures.ended)
    (last_advances account first start from line now run left written h behind after c.line.new.writer later between then c.end.result
    (ap ends_line (sym c.line_at-line.ensures) ∙ sym c.ends_line-has_end.ensures ∙ c.if-has_end.false)
    (subst (λ (xs : List ℕ). GoesOn now behind xs run.writer c.line.new.writer written between) c.line_at-line.ensures goes) c.end.ensures.ended)

pub returns-in-Ok-Ends-clause-taken : goal.returns-in-Ok-Ends-clause-taken
returns-in-Ok-Ends-clause-taken g c = λ account first start from left h.
    let now = g.T.LineTask.account c.args.task.now in
    let written = g.K.Sink.written c.args.sink.now in
    let then = g.K.Sink.written c.line.new.sink in
    let run = c.args.self.now in
    let line : List ℕ = take c.args.len (drop c.args.place run.reader.buffer) in
    let ends : Settles now c.line_at-line.result.now (Ok c.in-Ok-Ends.outcome) run.writer c.line.new.writer written then = rw c.in-Ok-Ends.field-0-is at c.in-Ok-Ends.ensures.taken in
    taken_ends account first start from line now run left written h c.line.new.writer then c.in-Ok-Ends.outcome
    (subst (λ (xs : List ℕ). Settles now xs (Ok c.in-Ok-Ends.outcome) run.writer c.line.new.writer written then) c.line_at-line.ensures ends)

pub returns-in-Err-clause-taken : goal.returns-in-Err-clause-taken
returns-in-Err-clause-taken g c = λ account first start from left h.
    let now = g.T.LineTask.account c.args.task.now in
    let written = g.K.Sink.written c.args.sink.now in
    let then = g.K.Sink.written c.line.new.sink in
    let run = c.args.self.now in
    let line : List ℕ = take c.args.len (drop c.args.place run.reader.buffer) in
    subst (λ (f : LineFault). Halts account first start from f c.line.new.writer left then) (sym c.from.ensures)
    (halts account first start from c.in-Err.stop c.line.new.writer left then
    (taken_stopped account first start from line now run left written h c.line.new.writer then c.in-Err.stop
    (subst (λ (xs : List ℕ). StopsIn c.in-Err.stop run.writer c.line.new.writer written then (caused (now (xs ∷ [])))) c.line_at-line.ensures c.in-Err.ensures.taken)))
