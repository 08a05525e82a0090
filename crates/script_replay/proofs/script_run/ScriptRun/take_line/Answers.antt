use Rattle.std.proofs.Common.{◌≡◌, ◌∙◌, ◌+◌, ◌≤◌, Bool, List, ℕ, Some, ap, arith, drop, length, refl, subst, sym, take}
use Rattle.std.proofs.lemmas.List.{length-drop, length-take-le}
use Rattle.lab_io.specs.Fault.{count_after}
use Rattle.lab_io.specs.Lines.{Given, Long, Over, Past, Reader}
use Rattle.lab_io.specs.Reading.{IsNext, KnowsEnd}
use Rattle.script_model.specs.declared.refusal.Refused.{Refused}
use Rattle.script_replay.specs.Reading.{HasLineRoom, IsSettled}
use Rattle.script_replay.proofs.Advancing.{input_ends, line_counted, line_less, line_room, long_line, next_line, past_end, read_failed, still_at_end}
use Rattle.script_replay.proofs.Metered.{line_metered}
use Rattle.script_replay.proofs.script_run.ScriptRun.take_line.Goals as goal

pub take-requires-clause-within : goal.take-requires-clause-within
take-requires-clause-within g c = rw c.in-Ok-Line.field-0-is at c.in-Ok-Line.ensures.within

pub take-requires-clause-room : goal.take-requires-clause-room
take-requires-clause-room g c =
    let line : List ℕ = take c.in-Ok-Line.len (drop c.in-Ok-Line.place c.next.new.self.buffer) in
    let n : IsNext c.args.self.now.reader c.next.new.self (g.S.Source.left c.args.source.now) (g.S.Source.left c.next.new.source) (Given line) = rw c.in-Ok-Line.field-0-is at c.in-Ok-Line.ensures.next in
    let within : c.in-Ok-Line.place + c.in-Ok-Line.len ≤ length c.next.new.self.buffer = rw c.in-Ok-Line.field-0-is at c.in-Ok-Line.ensures.within in
    let size : length line ≡ c.in-Ok-Line.len = length-take-le c.in-Ok-Line.len (drop c.in-Ok-Line.place c.next.new.self.buffer) (omega (arith, within, length-drop c.in-Ok-Line.place c.next.new.self.buffer)) in
    subst (HasLineRoom c.args.self.now.replay.state) size (line_room c.args.self.now c.next.new.self (g.S.Source.left c.args.source.now) (g.S.Source.left c.next.new.source) line c.requires.counted n)

pub returns-in-Ok-Line-clause-taken : goal.returns-in-Ok-Line-clause-taken
returns-in-Ok-Line-clause-taken g c = λ first start before from h.
    let line : List ℕ = take c.in-Ok-Line.len (drop c.in-Ok-Line.place c.next.new.self.buffer) in
    let n : IsNext c.args.self.now.reader c.next.new.self (g.S.Source.left c.args.source.now) (g.S.Source.left c.next.new.source) (Given line) = rw c.in-Ok-Line.field-0-is at c.in-Ok-Line.ensures.next in
    c.take.ensures.taken first start before from (g.S.Source.left c.next.new.source)
    (next_line g.C.NodeController.seen g.T.Teller.state g.T.Teller.tale (g.N.PolicyChoice.chosen c.args.choice.now) first start before from c.args.self.now (record c.args.self.now { reader = c.next.new.self }) (g.S.Source.left c.args.source.now) (g.S.Source.left c.next.new.source) (g.K.Sink.written c.args.sink.now) c.args.meter.now line h refl refl n (λ is. still_at_end g.S.Source.left c.args.source.now c.next.new.source c.args.self.now.reader h.ended c.in-Ok-Line.ensures.unread (c.in-Ok-Line.ensures.ended is)))

pub returns-in-Ok-Line-clause-kept : goal.returns-in-Ok-Line-clause-kept
returns-in-Ok-Line-clause-kept g c = λ first start before from h.
    let line : List ℕ = take c.in-Ok-Line.len (drop c.in-Ok-Line.place c.next.new.self.buffer) in
    let n : IsNext c.args.self.now.reader c.next.new.self (g.S.Source.left c.args.source.now) (g.S.Source.left c.next.new.source) (Given line) = rw c.in-Ok-Line.field-0-is at c.in-Ok-Line.ensures.next in
    c.take.ensures.kept first start before from (g.S.Source.left c.next.new.source)
    (next_line g.C.NodeController.seen g.T.Teller.state g.T.Teller.tale (g.N.PolicyChoice.chosen c.args.choice.now) first start before from c.args.self.now (record c.args.self.now { reader = c.next.new.self }) (g.S.Source.left c.args.source.now) (g.S.Source.left c.next.new.source) (g.K.Sink.written c.args.sink.now) c.args.meter.now line h refl refl n (λ is. still_at_end g.S.Source.left c.args.source.now c.next.new.source c.args.self.now.reader h.ended c.in-Ok-Line.ensures.unread (c.in-Ok-Line.ensures.ended is)))

pub returns-in-Ok-Line-clause-known : goal.returns-in-Ok-Line-clause-known
returns-in-Ok-Line-clause-known g c = λ known.
    subst (λ (r : Reader). KnowsEnd r.is_ended (g.S.Source.said_end c.next.new.source)) (sym c.take.ensures.reader) (c.in-Ok-Line.ensures.known known)

pub returns-in-Ok-Line-clause-counted : goal.returns-in-Ok-Line-clause-counted
returns-in-Ok-Line-clause-counted g c = λ more.
    let line : List ℕ = take c.in-Ok-Line.len (drop c.in-Ok-Line.place c.next.new.self.buffer) in
    let n : IsNext c.args.self.now.reader c.next.new.self (g.S.Source.left c.args.source.now) (g.S.Source.left c.next.new.source) (Given line) = rw c.in-Ok-Line.field-0-is at c.in-Ok-Line.ensures.next in
    line_counted c.args.self.now c.take.new.self (g.S.Source.left c.args.source.now) (g.S.Source.left c.next.new.source) line c.requires.counted
    (subst (λ (r : Reader). IsNext c.args.self.now.reader r (g.S.Source.left c.args.source.now) (g.S.Source.left c.next.new.source) (Given line)) (sym c.take.ensures.reader) n) (c.take.ensures.counted more)

pub returns-in-Ok-Line-clause-less : goal.returns-in-Ok-Line-clause-less
returns-in-Ok-Line-clause-less g c = λ more.
    let line : List ℕ = take c.in-Ok-Line.len (drop c.in-Ok-Line.place c.next.new.self.buffer) in
    let n : IsNext c.args.self.now.reader c.next.new.self (g.S.Source.left c.args.source.now) (g.S.Source.left c.next.new.source) (Given line) = rw c.in-Ok-Line.field-0-is at c.in-Ok-Line.ensures.next in
    subst (λ (r : Reader). c.args.self.now.reader.given + 1 ≤ r.given) (sym c.take.ensures.reader)
    (line_less c.args.self.now.reader c.next.new.self (g.S.Source.left c.args.source.now) (g.S.Source.left c.next.new.source) line n)

pub returns-in-Ok-Line-clause-read : goal.returns-in-Ok-Line-clause-read
returns-in-Ok-Line-clause-read g c = c.in-Ok-Line.ensures.faults ∙ sym (ap (λ (b : Bool). count_after b (g.S.Source.faults c.args.source.now)) c.take.ensures.read)

pub refused-refused-requires : goal.refused-refused-requires
refused-refused-requires g c = omega (arith, c.requires.counted.lines, c.requires.counted.low)

pub returns-in-Ok-LongLine-clause-taken : goal.returns-in-Ok-LongLine-clause-taken
returns-in-Ok-LongLine-clause-taken g c = λ first start before from h.
    let n : IsNext c.args.self.now.reader c.next.new.self (g.S.Source.left c.args.source.now) (g.S.Source.left c.next.new.source) Long = rw c.in-Ok-LongLine.field-0-is at c.in-Ok-LongLine.ensures.next in
    subst (λ (r : Refused). IsSettled g.C.NodeController.seen g.T.Teller.tale (g.N.PolicyChoice.chosen c.args.choice.now) first start before from (Some r) (record c.args.self.now { reader = c.next.new.self }) (g.S.Source.left c.next.new.source) (g.K.Sink.written c.args.sink.now) c.args.meter.now) (sym c.refused-refused.ensures)
    (long_line g.C.NodeController.seen g.T.Teller.state g.T.Teller.tale (g.N.PolicyChoice.chosen c.args.choice.now) first start before from c.args.self.now (record c.args.self.now { reader = c.next.new.self }) (g.S.Source.left c.args.source.now) (g.S.Source.left c.next.new.source) (g.K.Sink.written c.args.sink.now) c.args.meter.now h n refl refl c.requires.counted.octets c.requires.counted.low (λ is. still_at_end g.S.Source.left c.args.source.now c.next.new.source c.args.self.now.reader h.ended c.in-Ok-LongLine.ensures.unread (c.in-Ok-LongLine.ensures.ended is)))

pub refused-refused-requires-in-Ok-PastEnd : goal.refused-refused-requires-in-Ok-PastEnd
refused-refused-requires-in-Ok-PastEnd g c = omega (arith, c.requires.counted.lines, c.requires.counted.low)

pub returns-in-Ok-PastEnd-clause-taken : goal.returns-in-Ok-PastEnd-clause-taken
returns-in-Ok-PastEnd-clause-taken g c = λ first start before from h.
    let n : IsNext c.args.self.now.reader c.next.new.self (g.S.Source.left c.args.source.now) (g.S.Source.left c.next.new.source) Past = rw c.in-Ok-PastEnd.field-0-is at c.in-Ok-PastEnd.ensures.next in
    subst (λ (r : Refused). IsSettled g.C.NodeController.seen g.T.Teller.tale (g.N.PolicyChoice.chosen c.args.choice.now) first start before from (Some r) (record c.args.self.now { reader = c.next.new.self }) (g.S.Source.left c.next.new.source) (g.K.Sink.written c.args.sink.now) c.args.meter.now) (sym c.refused-refused-in-Ok-PastEnd.ensures)
    (past_end g.C.NodeController.seen g.T.Teller.state g.T.Teller.tale (g.N.PolicyChoice.chosen c.args.choice.now) first start before from c.args.self.now (record c.args.self.now { reader = c.next.new.self }) (g.S.Source.left c.args.source.now) (g.S.Source.left c.next.new.source) (g.K.Sink.written c.args.sink.now) c.args.meter.now h n refl refl c.requires.counted.octets c.requires.counted.low (λ is. still_at_end g.S.Source.left c.args.source.now c.next.new.source c.args.self.now.reader h.ended c.in-Ok-PastEnd.ensures.unread (c.in-Ok-PastEnd.ensures.ended is)))

pub returns-in-Ok-End-clause-taken : goal.returns-in-Ok-End-clause-taken
returns-in-Ok-End-clause-taken g c = λ first start before from h.
    let n : IsNext c.args.self.now.reader c.next.new.self (g.S.Source.left c.args.source.now) (g.S.Source.left c.next.new.source) Over = rw c.in-Ok-End.field-0-is at c.in-Ok-End.ensures.next in
    input_ends g.C.NodeController.seen g.T.Teller.state g.T.Teller.tale (g.N.PolicyChoice.chosen c.args.choice.now) first start before from c.args.self.now (record c.args.self.now { reader = c.next.new.self }) (g.S.Source.left c.args.source.now) (g.S.Source.left c.next.new.source) (g.K.Sink.written c.args.sink.now) c.args.meter.now h n refl refl c.requires.counted.low (λ is. still_at_end g.S.Source.left c.args.source.now c.next.new.source c.args.self.now.reader h.ended c.in-Ok-End.ensures.unread (c.in-Ok-End.ensures.ended is))

pub returns-in-Err-clause-taken : goal.returns-in-Err-clause-taken
returns-in-Err-clause-taken g c = λ first start before from h.
    read_failed g.C.NodeController.seen g.T.Teller.state g.T.Teller.tale (g.N.PolicyChoice.chosen c.args.choice.now) first start before from c.args.self.now (record c.args.self.now { reader = c.next.new.self }) (g.S.Source.left c.args.source.now) (g.S.Source.left c.next.new.source) (g.K.Sink.written c.args.sink.now) c.args.meter.now h c.in-Err.ensures.cut c.requires.counted.low

pub returns-in-Err-clause-kept : goal.returns-in-Err-clause-kept
returns-in-Err-clause-kept g c = λ first start before from h.
    line_metered g.C.NodeController.seen g.T.Teller.state g.T.Teller.tale (g.N.PolicyChoice.chosen c.args.choice.now) first start before from c.args.self.now (g.S.Source.left c.args.source.now) (g.K.Sink.written c.args.sink.now) c.args.meter.now h c.requires.counted.low
