use Rattle.std.proofs.Common.{◌∙◌, Bool, IfErr, Result, true≢false, refl, subst, sym}
use Rattle.script_model.specs.Script.{script_of}
use Rattle.network_replay.proofs.Metered.{as_before}
use Rattle.line_by_line.specs.declared.fault.LineFault.{LineFault}
use Rattle.script_replay.specs.Report.{IsLeft, account_by, telling_by}
use Rattle.script_replay.proofs.Beginning.{begun_bare, begun_counted, begun_few, begun_going, begun_line, nothing_told}
use Rattle.line_by_line.proofs.Outcomes.{err_is}
use Rattle.script_replay.proofs.Outcomes.{complete_of, done_of, left_of}
use Rattle.script_replay.proofs.from_source.tell.Goals as goal

pub replay-outcome-requires-clause-going : goal.replay-outcome-requires-clause-going
replay-outcome-requires-clause-going g c = begun_going g.C.NodeController.seen g.T.Teller.state g.T.Teller.tale (g.N.PolicyChoice.chosen c.args.choice.now) c.in_ok-run.run' c.in_ok-run.ensures c.args.meter.now

pub replay-outcome-requires-clause-counted : goal.replay-outcome-requires-clause-counted
replay-outcome-requires-clause-counted g c = begun_counted g.C.NodeController.seen g.T.Teller.state g.T.Teller.tale (g.N.PolicyChoice.chosen c.args.choice.now) c.in_ok-run.run' c.in_ok-run.ensures

pub returns-in_err-run-clause-left : goal.returns-in_err-run-clause-left
returns-in_err-run-clause-left g c =
    subst (λ (r : Result Bool LineFault). IfErr r (λ fault. IsLeft fault (account_by g.T.Teller.tale (g.N.PolicyChoice.chosen c.args.choice.now)) (telling_by g.T.Teller.tale (g.N.PolicyChoice.chosen c.args.choice.now)) (g.S.Source.left c.args.source.now) (g.S.Source.left c.args.source.now) (g.K.Sink.written c.args.sink.now) (g.K.Sink.written c.args.sink.now)))
    (sym (err_is c.from_residual.result _ c.from_residual.ensures.1)) (nothing_told (account_by g.T.Teller.tale (g.N.PolicyChoice.chosen c.args.choice.now)) (telling_by g.T.Teller.tale (g.N.PolicyChoice.chosen c.args.choice.now)) (g.S.Source.left c.args.source.now) (g.K.Sink.written c.args.sink.now))

pub returns-clause-done : goal.returns-clause-done
returns-clause-done g c =
    let seen = g.C.NodeController.seen in
    let known = g.T.Teller.state in
    let tale = g.T.Teller.tale in
    let choice = g.N.PolicyChoice.chosen c.args.choice.now in
    let account = account_by tale choice in
    let body = telling_by tale choice in
    let run = c.in_ok-run.run' in
    let from = g.S.Source.left c.args.source.now in
    let start = g.K.Sink.written c.args.sink.now in
    let left = g.S.Source.left c.replay-outcome.new.source in
    let tells = c.replay-outcome.ensures.told run.told.writer start c.args.meter.now from (begun_line seen known tale choice run c.in_ok-run.ensures from start c.args.meter.now) in
    let finished = c.finish.ensures.finished choice account body run.told.writer start from left c.args.meter.now c.replay-outcome.new.meter
    (begun_bare seen known tale choice run c.in_ok-run.ensures) (begun_few seen known tale choice run c.in_ok-run.ensures c.replay-outcome.new.self.told.writer c.replay-outcome.ensures.room) tells in
    done_of choice account body start c.args.meter.now from left (g.K.Sink.written c.finish.new.sink) c.replay-outcome.new.meter c.finish.result finished

pub returns-clause-complete : goal.returns-clause-complete
returns-clause-complete g c =
    let seen = g.C.NodeController.seen in
    let known = g.T.Teller.state in
    let tale = g.T.Teller.tale in
    let choice = g.N.PolicyChoice.chosen c.args.choice.now in
    let account = account_by tale choice in
    let body = telling_by tale choice in
    let run = c.in_ok-run.run' in
    let from = g.S.Source.left c.args.source.now in
    let start = g.K.Sink.written c.args.sink.now in
    let left = g.S.Source.left c.replay-outcome.new.source in
    let tells = c.replay-outcome.ensures.told run.told.writer start c.args.meter.now from (begun_line seen known tale choice run c.in_ok-run.ensures from start c.args.meter.now) in
    let finished = c.finish.ensures.finished choice account body run.told.writer start from left c.args.meter.now c.replay-outcome.new.meter
    (begun_bare seen known tale choice run c.in_ok-run.ensures) (begun_few seen known tale choice run c.in_ok-run.ensures c.replay-outcome.new.self.told.writer c.replay-outcome.ensures.room) tells in
    complete_of choice account body start c.args.meter.now from left (g.K.Sink.written c.finish.new.sink) c.replay-outcome.new.meter c.finish.result finished

pub returns-clause-left : goal.returns-clause-left
returns-clause-left g c =
    let seen = g.C.NodeController.seen in
    let known = g.T.Teller.state in
    let tale = g.T.Teller.tale in
    let choice = g.N.PolicyChoice.chosen c.args.choice.now in
    let account = account_by tale choice in
    let body = telling_by tale choice in
    let run = c.in_ok-run.run' in
    let from = g.S.Source.left c.args.source.now in
    let start = g.K.Sink.written c.args.sink.now in
    let left = g.S.Source.left c.replay-outcome.new.source in
    let tells = c.replay-outcome.ensures.told run.told.writer start c.args.meter.now from (begun_line seen known tale choice run c.in_ok-run.ensures from start c.args.meter.now) in
    let finished = c.finish.ensures.finished choice account body run.told.writer start from left c.args.meter.now c.replay-outcome.new.meter
    (begun_bare seen known tale choice run c.in_ok-run.ensures) (begun_few seen known tale choice run c.in_ok-run.ensures c.replay-outcome.new.self.told.writer c.replay-outcome.ensures.room) tells in
    left_of choice account body start c.args.meter.now from left (g.K.Sink.written c.finish.new.sink) c.replay-outcome.new.meter c.finish.result finished

pub returns-in_err-run-clause-metered : goal.returns-in_err-run-clause-metered
returns-in_err-run-clause-metered g c = λ input is. as_before (g.N.PolicyChoice.chosen c.args.choice.now) c.args.meter.now c.args.meter.now (script_of input) refl

pub returns-clause-metered : goal.returns-clause-metered
returns-clause-metered g c =
    let choice = g.N.PolicyChoice.chosen c.args.choice.now in
    let run = c.in_ok-run.run' in
    let from = g.S.Source.left c.args.source.now in
    let start = g.K.Sink.written c.args.sink.now in
    c.replay-outcome.ensures.metered run.told.writer start c.args.meter.now from
    (begun_line g.C.NodeController.seen g.T.Teller.state g.T.Teller.tale choice run c.in_ok-run.ensures from start c.args.meter.now)

pub returns-clause-late : goal.returns-clause-late
returns-clause-late g c = λ unsaid. c.replay-outcome.ensures.late (λ said. absurd (true≢false (sym said ∙ unsaid)))
