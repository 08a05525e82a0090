use Rattle.std.proofs.Common.{◌≡◌, ◌∙◌, ◌+◌, ◌-◌, ℕ, List, Option, Ok, ap, drop, refl, subst, sym, take, arith}
use Rattle.script_model.specs.declared.refusal.Refused.{Refused}
use Rattle.script_model.specs.Reading.{line_says}
use Rattle.network_replay.specs.Along.{GoesOn}
use Rattle.lab_io.proofs.Sights.{on_err}
use Rattle.script_replay.specs.Reading.{HasNext}
use Rattle.script_replay.proofs.Metered.{taken_metered}
use Rattle.script_replay.proofs.Advancing.{as_told, taken_halted, taken_last, taken_refused, taken_with_end}
use Rattle.script_replay.proofs.script_run.ScriptRun.take.Goals as goal

pub returns-in_err-refused-clause-taken : goal.returns-in_err-refused-clause-taken
returns-in_err-refused-clause-taken g c = λ first start before from left h.
    let seen = g.C.NodeController.seen in
    let known = g.T.Teller.state in
    let tale = g.T.Teller.tale in
    let choice = g.N.PolicyChoice.chosen c.args.choice.now in
    let size : c.args.place + c.args.len - c.args.place ≡ c.args.len = omega arith in
    let same : take (c.args.place + c.args.len - c.args.place) (drop c.args.place c.octets.result.now) ≡ take c.args.len (drop c.args.place c.args.self.now.reader.buffer) =
    ap (λ (k : ℕ). take k (drop c.args.place c.octets.result.now)) size ∙ ap (λ (xs : List ℕ). take c.args.len (drop c.args.place xs)) c.octets.ensures in
    let octets : List ℕ = take (c.args.place + c.args.len - c.args.place) (drop c.args.place c.octets.result.now) in
    let here : HasNext seen known tale choice first start before from octets c.args.self.now left (g.K.Sink.written c.args.sink.now) c.args.meter.now =
    subst (λ (xs : List ℕ). HasNext seen known tale choice first start before from xs c.args.self.now left (g.K.Sink.written c.args.sink.now) c.args.meter.now) (sym same) h in
    as_told seen known tale choice first start before from c.from_residual.result _ (record { reader = c.args.self.now.reader; told = c.line.new.told; replay = c.line.new.self }) left (g.K.Sink.written c.line.new.sink) c.line.new.meter c.from_residual.ensures.1
    (taken_halted seen known tale choice first start before from octets c.args.self.now left (g.K.Sink.written c.args.sink.now) c.args.meter.now here c.line.new.told.writer (g.K.Sink.written c.line.new.sink) _ (c.in_err-refused.ensures.along first start before here.lines here.along))

pub returns-in_err-refused-clause-kept : goal.returns-in_err-refused-clause-kept
returns-in_err-refused-clause-kept g c = λ first start before from left h.
    let seen = g.C.NodeController.seen in
    let known = g.T.Teller.state in
    let tale = g.T.Teller.tale in
    let choice = g.N.PolicyChoice.chosen c.args.choice.now in
    let size : c.args.place + c.args.len - c.args.place ≡ c.args.len = omega arith in
    let same : take (c.args.place + c.args.len - c.args.place) (drop c.args.place c.octets.result.now) ≡ take c.args.len (drop c.args.place c.args.self.now.reader.buffer) =
    ap (λ (k : ℕ). take k (drop c.args.place c.octets.result.now)) size ∙ ap (λ (xs : List ℕ). take c.args.len (drop c.args.place xs)) c.octets.ensures in
    let octets : List ℕ = take (c.args.place + c.args.len - c.args.place) (drop c.args.place c.octets.result.now) in
    let here : HasNext seen known tale choice first start before from octets c.args.self.now left (g.K.Sink.written c.args.sink.now) c.args.meter.now =
    subst (λ (xs : List ℕ). HasNext seen known tale choice first start before from xs c.args.self.now left (g.K.Sink.written c.args.sink.now) c.args.meter.now) (sym same) h in
    on_err c.from_residual.result
    (taken_metered seen known tale choice first start before from octets c.args.self.now left (g.K.Sink.written c.args.sink.now) c.args.meter.now c.line.new.meter here
    (c.in_err-refused.ensures.kept first start before here.lines here.along))

pub returns-in-Some-clause-taken : goal.returns-in-Some-clause-taken
returns-in-Some-clause-taken g c = λ first start before from left h.
    let seen = g.C.NodeController.seen in
    let known = g.T.Teller.state in
    let tale = g.T.Teller.tale in
    let choice = g.N.PolicyChoice.chosen c.args.choice.now in
    let size : c.args.place + c.args.len - c.args.place ≡ c.args.len = omega arith in
    let same : take (c.args.place + c.args.len - c.args.place) (drop c.args.place c.octets.result.now) ≡ take c.args.len (drop c.args.place c.args.self.now.reader.buffer) =
    ap (λ (k : ℕ). take k (drop c.args.place c.octets.result.now)) size ∙ ap (λ (xs : List ℕ). take c.args.len (drop c.args.place xs)) c.octets.ensures in
    let octets : List ℕ = take (c.args.place + c.args.len - c.args.place) (drop c.args.place c.octets.result.now) in
    let here : HasNext seen known tale choice first start before from octets c.args.self.now left (g.K.Sink.written c.args.sink.now) c.args.meter.now =
    subst (λ (xs : List ℕ). HasNext seen known tale choice first start before from xs c.args.self.now left (g.K.Sink.written c.args.sink.now) c.args.meter.now) (sym same) h in
    taken_refused seen known tale choice first start before from octets c.args.self.now left (g.K.Sink.written c.args.sink.now) c.args.meter.now here (record { reader = c.args.self.now.reader; told = c.line.new.told; replay = c.line.new.self }) (g.K.Sink.written c.line.new.sink) c.line.new.meter c.in-Some.refused
    (subst (λ (o : Option Refused). GoesOn seen known tale choice line_says first start before here.lines octets (Ok o) c.line.new.self c.line.new.told (g.K.Sink.written c.line.new.sink) c.line.new.meter) c.in-Some.is
    (c.in_ok-refused.ensures.along first start before here.lines here.along))

pub returns-in-None-clause-taken : goal.returns-in-None-clause-taken
returns-in-None-clause-taken g c = λ first start before from left h.
    let seen = g.C.NodeController.seen in
    let known = g.T.Teller.state in
    let tale = g.T.Teller.tale in
    let choice = g.N.PolicyChoice.chosen c.args.choice.now in
    let size : c.args.place + c.args.len - c.args.place ≡ c.args.len = omega arith in
    let same : take (c.args.place + c.args.len - c.args.place) (drop c.args.place c.octets.result.now) ≡ take c.args.len (drop c.args.place c.args.self.now.reader.buffer) =
    ap (λ (k : ℕ). take k (drop c.args.place c.octets.result.now)) size ∙ ap (λ (xs : List ℕ). take c.args.len (drop c.args.place xs)) c.octets.ensures in
    let octets : List ℕ = take (c.args.place + c.args.len - c.args.place) (drop c.args.place c.octets.result.now) in
    let here : HasNext seen known tale choice first start before from octets c.args.self.now left (g.K.Sink.written c.args.sink.now) c.args.meter.now =
    subst (λ (xs : List ℕ). HasNext seen known tale choice first start before from xs c.args.self.now left (g.K.Sink.written c.args.sink.now) c.args.meter.now) (sym same) h in
    taken_with_end seen known tale choice first start before from octets c.args.self.now left (g.K.Sink.written c.args.sink.now) c.args.meter.now here (record { reader = c.args.self.now.reader; told = c.line.new.told; replay = c.line.new.self }) (g.K.Sink.written c.line.new.sink) c.line.new.meter (sym c.ends_line-has_end.ensures ∙ c.if-has_end.true) refl
    (subst (λ (o : Option Refused). GoesOn seen known tale choice line_says first start before here.lines octets (Ok o) c.line.new.self c.line.new.told (g.K.Sink.written c.line.new.sink) c.line.new.meter) c.in-None.is
    (c.in_ok-refused.ensures.along first start before here.lines here.along))

pub returns-in-None-2-clause-taken : goal.returns-in-None-2-clause-taken
returns-in-None-2-clause-taken g c = λ first start before from left h.
    let seen = g.C.NodeController.seen in
    let known = g.T.Teller.state in
    let tale = g.T.Teller.tale in
    let choice = g.N.PolicyChoice.chosen c.args.choice.now in
    let size : c.args.place + c.args.len - c.args.place ≡ c.args.len = omega arith in
    let same : take (c.args.place + c.args.len - c.args.place) (drop c.args.place c.octets.result.now) ≡ take c.args.len (drop c.args.place c.args.self.now.reader.buffer) =
    ap (λ (k : ℕ). take k (drop c.args.place c.octets.result.now)) size ∙ ap (λ (xs : List ℕ). take c.args.len (drop c.args.place xs)) c.octets.ensures in
    let octets : List ℕ = take (c.args.place + c.args.len - c.args.place) (drop c.args.place c.octets.result.now) in
    let here : HasNext seen known tale choice first start before from octets c.args.self.now left (g.K.Sink.written c.args.sink.now) c.args.meter.now =
    subst (λ (xs : List ℕ). HasNext seen known tale choice first start before from xs c.args.self.now left (g.K.Sink.written c.args.sink.now) c.args.meter.now) (sym same) h in
    taken_last seen known tale choice first start before from octets c.args.self.now left (g.K.Sink.written c.args.sink.now) c.args.meter.now here (record { reader = c.args.self.now.reader; told = c.line.new.told; replay = c.line.new.self }) (g.K.Sink.written c.line.new.sink) c.line.new.meter (sym c.ends_line-has_end.ensures ∙ c.if-has_end.false)
    (subst (λ (o : Option Refused). GoesOn seen known tale choice line_says first start before here.lines octets (Ok o) c.line.new.self c.line.new.told (g.K.Sink.written c.line.new.sink) c.line.new.meter) c.in-None-2.is
    (c.in_ok-refused.ensures.along first start before here.lines here.along))
