use Rattle.std.proofs.Common.{◌≡◌, ◌+◌, ◌≤◌, List, ℕ, Result, ap, arith, drop, length, subst, sym, take}
use Rattle.std.proofs.lemmas.List.{length-drop, length-take-le}
use Rattle.lab_io.specs.Lines.{Given, Long, Over, Past, Reader}
use Rattle.lab_io.specs.Reading.{IsNext, KnowsEnd}
use Rattle.line_by_line.specs.declared.fault.LineFault.{LineFault}
use Rattle.line_by_line.specs.declared.line_run.LineRun.{LineRun}
use Rattle.line_by_line.specs.declared.task.Step.{Step}
use Rattle.line_by_line.specs.Steps.{IsPast, IsTooLong}
use Rattle.line_by_line.specs.Reading.{Advances}
use Rattle.line_by_line.proofs.Advancing.{end_advances, line_fits, long_advances, next_line, past_advances, read_failed, still_at_end}
use Rattle.line_by_line.proofs.line_run.LineRun.take_next.Goals as goal

pub take-requires-clause-short : goal.take-requires-clause-short
take-requires-clause-short g c =
    let line : List ℕ = take c.in-Ok-Line.len (drop c.in-Ok-Line.place c.next.new.self.buffer) in
    let n : IsNext c.args.self.now.reader c.next.new.self (g.S.Source.left c.args.source.now) (g.S.Source.left c.next.new.source) (Given line) = rw c.in-Ok-Line.field-0-is at c.in-Ok-Line.ensures.next in
    let fit = line_fits (g.T.LineTask.octets c.args.task.now) c.args.self.now c.next.new.self (g.S.Source.left c.args.source.now) (g.S.Source.left c.next.new.source) line c.requires.counted n in
    fit.short

pub take-requires-clause-room : goal.take-requires-clause-room
take-requires-clause-room g c =
    let line : List ℕ = take c.in-Ok-Line.len (drop c.in-Ok-Line.place c.next.new.self.buffer) in
    let n : IsNext c.args.self.now.reader c.next.new.self (g.S.Source.left c.args.source.now) (g.S.Source.left c.next.new.source) (Given line) = rw c.in-Ok-Line.field-0-is at c.in-Ok-Line.ensures.next in
    let fit = line_fits (g.T.LineTask.octets c.args.task.now) c.args.self.now c.next.new.self (g.S.Source.left c.args.source.now) (g.S.Source.left c.next.new.source) line c.requires.counted n in
    let within : c.in-Ok-Line.place + c.in-Ok-Line.len ≤ length c.next.new.self.buffer = rw c.in-Ok-Line.field-0-is at c.in-Ok-Line.ensures.within in
    let size : length line ≡ c.in-Ok-Line.len = length-take-le c.in-Ok-Line.len (drop c.in-Ok-Line.place c.next.new.self.buffer) (omega (arith, within, length-drop c.in-Ok-Line.place c.next.new.self.buffer)) in
    omega (arith, fit.room, size)

pub returns-in-Ok-Line-clause-taken : goal.returns-in-Ok-Line-clause-taken
returns-in-Ok-Line-clause-taken g c = λ account first start from h.
    let line : List ℕ = take c.in-Ok-Line.len (drop c.in-Ok-Line.place c.next.new.self.buffer) in
    let n : IsNext c.args.self.now.reader c.next.new.self (g.S.Source.left c.args.source.now) (g.S.Source.left c.next.new.source) (Given line) = rw c.in-Ok-Line.field-0-is at c.in-Ok-Line.ensures.next in
    c.take.ensures.taken account first start from (g.S.Source.left c.next.new.source)
    (next_line account first start from (g.T.LineTask.account c.args.task.now) c.args.self.now c.next.new.self (g.S.Source.left c.args.source.now) (g.S.Source.left c.next.new.source) (g.K.Sink.written c.args.sink.now) line h n
    (λ is. still_at_end g.S.Source.left c.args.source.now c.next.new.source c.args.self.now.reader h.ended c.in-Ok-Line.ensures.unread (c.in-Ok-Line.ensures.ended is)))

pub returns-in-Ok-Line-clause-counted : goal.returns-in-Ok-Line-clause-counted
returns-in-Ok-Line-clause-counted g c = λ more.
    let line : List ℕ = take c.in-Ok-Line.len (drop c.in-Ok-Line.place c.next.new.self.buffer) in
    let n : IsNext c.args.self.now.reader c.next.new.self (g.S.Source.left c.args.source.now) (g.S.Source.left c.next.new.source) (Given line) = rw c.in-Ok-Line.field-0-is at c.in-Ok-Line.ensures.next in
    let fit = line_fits (g.T.LineTask.octets c.args.task.now) c.args.self.now c.next.new.self (g.S.Source.left c.args.source.now) (g.S.Source.left c.next.new.source) line c.requires.counted n in
    let within : c.in-Ok-Line.place + c.in-Ok-Line.len ≤ length c.next.new.self.buffer = rw c.in-Ok-Line.field-0-is at c.in-Ok-Line.ensures.within in
    let size : length line ≡ c.in-Ok-Line.len = length-take-le c.in-Ok-Line.len (drop c.in-Ok-Line.place c.next.new.self.buffer) (omega (arith, within, length-drop c.in-Ok-Line.place c.next.new.self.buffer)) in
    let given : c.take.new.self.reader.given ≡ c.next.new.self.given = ap (λ (r : Reader). r.given) c.take.ensures.reader in
    record {
      octets_are = omega (arith, c.take.ensures.counted more, c.requires.counted.octets_are, fit.given, size, given);
      low = omega (arith, fit.room, c.requires.counted.octets_are, fit.given, given);
    }

pub returns-in-Ok-Line-clause-known : goal.returns-in-Ok-Line-clause-known
returns-in-Ok-Line-clause-known g c = λ known.
    subst (λ (r : Reader). KnowsEnd r.is_ended (g.S.Source.said_end c.next.new.source)) (sym c.take.ensures.reader) (c.in-Ok-Line.ensures.known known)

pub returns-in-Ok-LongLine-clause-taken : goal.returns-in-Ok-LongLine-clause-taken
returns-in-Ok-LongLine-clause-taken g c = λ account first start from h.
    let n : IsNext c.args.self.now.reader c.next.new.self (g.S.Source.left c.args.source.now) (g.S.Source.left c.next.new.source) Long = rw c.in-Ok-LongLine.field-0-is at c.in-Ok-LongLine.ensures.next in
    let now = g.T.LineTask.account c.args.task.now in
    let later : LineRun = record { reader = c.next.new.self; writer = c.too_long.new.writer } in
    subst (λ (r : Result (Step g.row.T-Outcome.Denot) LineFault). Advances account first start from r (g.T.LineTask.account c.too_long.new.self) later (g.S.Source.left c.next.new.source) (g.K.Sink.written c.too_long.new.sink)) (sym c.ended.ensures.ended)
    (long_advances account first start from now c.args.self.now c.next.new.self (g.S.Source.left c.args.source.now) (g.S.Source.left c.next.new.source) (g.K.Sink.written c.args.sink.now) h c.requires.counted.low
    (λ is. still_at_end g.S.Source.left c.args.source.now c.next.new.source c.args.self.now.reader h.ended c.in-Ok-LongLine.ensures.unread (c.in-Ok-LongLine.ensures.ended is)) n
    (g.T.LineTask.account c.too_long.new.self) later (g.K.Sink.written c.too_long.new.sink) c.too_long.result
    (λ line is. c.too_long.ensures.settled line (subst (λ k. IsTooLong k line) (sym c.requires.counted.octets_are) is)))

pub returns-in-Ok-PastEnd-clause-taken : goal.returns-in-Ok-PastEnd-clause-taken
returns-in-Ok-PastEnd-clause-taken g c = λ account first start from h.
    let n : IsNext c.args.self.now.reader c.next.new.self (g.S.Source.left c.args.source.now) (g.S.Source.left c.next.new.source) Past = rw c.in-Ok-PastEnd.field-0-is at c.in-Ok-PastEnd.ensures.next in
    let now = g.T.LineTask.account c.args.task.now in
    let later : LineRun = record { reader = c.next.new.self; writer = c.past_end.new.writer } in
    subst (λ (r : Result (Step g.row.T-Outcome.Denot) LineFault). Advances account first start from r (g.T.LineTask.account c.past_end.new.self) later (g.S.Source.left c.next.new.source) (g.K.Sink.written c.past_end.new.sink)) (sym c.ended-in-Ok-PastEnd.ensures.ended)
    (past_advances account first start from now c.args.self.now c.next.new.self (g.S.Source.left c.args.source.now) (g.S.Source.left c.next.new.source) (g.K.Sink.written c.args.sink.now) h c.requires.counted.low
    (λ is. still_at_end g.S.Source.left c.args.source.now c.next.new.source c.args.self.now.reader h.ended c.in-Ok-PastEnd.ensures.unread (c.in-Ok-PastEnd.ensures.ended is)) n
    (g.T.LineTask.account c.past_end.new.self) later (g.K.Sink.written c.past_end.new.sink) c.past_end.result
    (λ line is. c.past_end.ensures.settled line (subst (λ k. IsPast k line) (sym c.requires.counted.octets_are) is)))

pub returns-in-Ok-End-clause-taken : goal.returns-in-Ok-End-clause-taken
returns-in-Ok-End-clause-taken g c = λ account first start from h.
    let n : IsNext c.args.self.now.reader c.next.new.self (g.S.Source.left c.args.source.now) (g.S.Source.left c.next.new.source) Over = rw c.in-Ok-End.field-0-is at c.in-Ok-End.ensures.next in
    let now = g.T.LineTask.account c.args.task.now in
    let later : LineRun = record { reader = c.next.new.self; writer = c.end.new.writer } in
    subst (λ (r : Result (Step g.row.T-Outcome.Denot) LineFault). Advances account first start from r (g.T.LineTask.account c.end.new.self) later (g.S.Source.left c.next.new.source) (g.K.Sink.written c.end.new.sink)) (sym c.ended-in-Ok-End.ensures.ended)
    (end_advances account first start from now c.args.self.now c.next.new.self (g.S.Source.left c.args.source.now) (g.S.Source.left c.next.new.source) (g.K.Sink.written c.args.sink.now) h c.requires.counted.low
    (λ is. still_at_end g.S.Source.left c.args.source.now c.next.new.source c.args.self.now.reader h.ended c.in-Ok-End.ensures.unread (c.in-Ok-End.ensures.ended is)) n
    (g.T.LineTask.account c.end.new.self) later (g.K.Sink.written c.end.new.sink) c.end.result c.end.ensures.ended)

pub returns-in-Err-clause-taken : goal.returns-in-Err-clause-taken
returns-in-Err-clause-taken g c = λ account first start from h.
    read_failed account first start from (g.T.LineTask.account c.args.task.now) c.args.self.now (g.S.Source.left c.args.source.now) (g.S.Source.left c.next.new.source) (g.K.Sink.written c.args.sink.now) h c.requires.counted.low c.in-Err.ensures.cut
    (g.met.T.LineTask.is_open c.args.task.now)
