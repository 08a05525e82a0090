use Rattle.std.proofs.Common.{Option, Result, subst, sym}
use Rattle.script_model.specs.declared.refusal.Refused.{Refused}
use Rattle.script_model.specs.Script.{script_of}
use Rattle.network_run.specs.telling_model.Placed.{placed_of}
use Rattle.lab_io.proofs.Stops.{stays_then}
use Rattle.line_by_line.specs.declared.fault.LineFault.{LineFault}
use Rattle.script_replay.specs.Reading.{Tells}
use Rattle.script_replay.specs.Report.{account_by, telling_by}
use Rattle.script_replay.proofs.Advancing.{told_in_part, told_whole}
use Rattle.line_by_line.proofs.Outcomes.{err_is}
use Rattle.script_replay.proofs.Outcomes.{halts_tells, stops_tells}
use Rattle.script_replay.proofs.script_run.ScriptRun.replay.Goals as goal

pub returns-in_err-refused-clause-told : goal.returns-in_err-refused-clause-told
returns-in_err-refused-clause-told g c = λ first start before from h.
    let choice = g.N.PolicyChoice.chosen c.args.choice.now in
    let tale = g.T.Teller.tale in
    subst (λ (r : Result (Option Refused) LineFault). Tells choice (account_by tale choice) (telling_by tale choice) first start before from r c.take_lines.new.self.told.writer (g.S.Source.left c.take_lines.new.source) (g.K.Sink.written c.take_lines.new.sink) c.take_lines.new.meter)
    (sym (err_is c.from_residual.result _ c.from_residual.ensures.1))
    (halts_tells choice (account_by tale choice) (telling_by tale choice) first start before from c.take_lines.new.self.told.writer (g.S.Source.left c.take_lines.new.source) (g.K.Sink.written c.take_lines.new.sink) c.take_lines.new.meter _ (c.in_err-refused.ensures.taken first start before from h))

pub returns-in_err-end-clause-told : goal.returns-in_err-end-clause-told
returns-in_err-end-clause-told g c = λ first start before from h.
    let seen = g.C.NodeController.seen in
    let known = g.T.Teller.state in
    let tale = g.T.Teller.tale in
    let choice = g.N.PolicyChoice.chosen c.args.choice.now in
    let s = c.in_ok-refused.ensures.taken first start before from h in
    subst (λ (r : Result (Option Refused) LineFault). Tells choice (account_by tale choice) (telling_by tale choice) first start before from r c.end.new.told.writer (g.S.Source.left c.take_lines.new.source) (g.K.Sink.written c.end.new.sink) c.take_lines.new.meter)
    (sym (err_is c.from_residual-in_err-end.result _ c.from_residual-in_err-end.ensures.1))
    (stops_tells choice (account_by tale choice) (telling_by tale choice) first start before from c.end.new.told.writer (g.S.Source.left c.take_lines.new.source) (g.K.Sink.written c.end.new.sink) c.take_lines.new.meter _
    (told_in_part seen known tale choice first start before from c.in_ok-refused.refused c.take_lines.new.self c.end.new.told.writer (g.S.Source.left c.take_lines.new.source) (g.K.Sink.written c.take_lines.new.sink) (g.K.Sink.written c.end.new.sink) c.take_lines.new.meter _ s
    (c.in_err-end.ensures.put (script_of s.input) (placed_of s.input) s.last.whole)))

pub returns-clause-told : goal.returns-clause-told
returns-clause-told g c = λ first start before from h.
    let seen = g.C.NodeController.seen in
    let known = g.T.Teller.state in
    let tale = g.T.Teller.tale in
    let choice = g.N.PolicyChoice.chosen c.args.choice.now in
    let s = c.in_ok-refused.ensures.taken first start before from h in
    told_whole seen known tale choice first start before from c.in_ok-refused.refused c.take_lines.new.self c.end.new.told.writer (g.S.Source.left c.take_lines.new.source) (g.K.Sink.written c.take_lines.new.sink) (g.K.Sink.written c.end.new.sink) c.take_lines.new.meter s
    (c.in_ok-end.ensures.put (script_of s.input) (placed_of s.input) s.last.whole)

pub returns-clause-room : goal.returns-clause-room
returns-clause-room g c = stays_then _ _ _ c.in_ok-refused.ensures.room c.in_ok-end.ensures.room

pub returns-in_err-end-clause-room : goal.returns-in_err-end-clause-room
returns-in_err-end-clause-room g c = stays_then _ _ _ c.in_ok-refused.ensures.room c.in_err-end.ensures.room
