use Rattle.std.proofs.Common.{◌∙◌, IfErr, Result, true≢false, subst, sym}
use Rattle.line_by_line.specs.declared.fault.LineFault.{LineFault}
use Rattle.line_by_line.specs.Report.{IsLeft}
use Rattle.line_by_line.proofs.Beginning.{begun_bare, begun_counted, begun_few, begun_line, nothing_told}
use Rattle.line_by_line.proofs.Finishing.{complete_of, done_of, left_of}
use Rattle.line_by_line.proofs.Outcomes.{err_is}
use Rattle.line_by_line.proofs.from_source.run_lines.Goals as goal

pub take_all-outcome-requires-clause-counted : goal.take_all-outcome-requires-clause-counted
take_all-outcome-requires-clause-counted g c = begun_counted c.in_ok-run.run' c.in_ok-run.ensures (g.T.LineTask.octets c.args.task.now) c.requires.unread

pub returns-in_err-run-clause-left : goal.returns-in_err-run-clause-left
returns-in_err-run-clause-left g c =
    subst (λ (r : Result g.row.T-Outcome.Denot LineFault). IfErr r (λ fault. IsLeft fault (g.T.LineTask.account c.args.task.now) (g.S.Source.left c.args.source.now) (g.S.Source.left c.args.source.now) (g.K.Sink.written c.args.sink.now) (g.K.Sink.written c.args.sink.now)))
    (sym (err_is c.from_residual.result _ c.from_residual.ensures.1)) (nothing_told (g.T.LineTask.account c.args.task.now) (g.S.Source.left c.args.source.now) (g.K.Sink.written c.args.sink.now))

pub returns-clause-done : goal.returns-clause-done
returns-clause-done g c =
    let account = g.T.LineTask.account c.args.task.now in
    let run = c.in_ok-run.run' in
    let from = g.S.Source.left c.args.source.now in
    let start = g.K.Sink.written c.args.sink.now in
    let left = g.S.Source.left c.take_all-outcome.new.source in
    let finishes = c.take_all-outcome.ensures.taken account run.writer start from (begun_line account run c.in_ok-run.ensures from start) in
    done_of account start from left (g.K.Sink.written c.finish.new.sink) c.finish.result
    (c.finish.ensures.finished account run.writer start from left (begun_bare run c.in_ok-run.ensures) (begun_few run c.in_ok-run.ensures c.take_all-outcome.new.self.writer c.take_all-outcome.ensures.room) finishes)

pub returns-clause-complete : goal.returns-clause-complete
returns-clause-complete g c =
    let account = g.T.LineTask.account c.args.task.now in
    let run = c.in_ok-run.run' in
    let from = g.S.Source.left c.args.source.now in
    let start = g.K.Sink.written c.args.sink.now in
    let left = g.S.Source.left c.take_all-outcome.new.source in
    let finishes = c.take_all-outcome.ensures.taken account run.writer start from (begun_line account run c.in_ok-run.ensures from start) in
    complete_of account start from left (g.K.Sink.written c.finish.new.sink) c.finish.result
    (c.finish.ensures.finished account run.writer start from left (begun_bare run c.in_ok-run.ensures) (begun_few run c.in_ok-run.ensures c.take_all-outcome.new.self.writer c.take_all-outcome.ensures.room) finishes)

pub returns-clause-left : goal.returns-clause-left
returns-clause-left g c =
    let account = g.T.LineTask.account c.args.task.now in
    let run = c.in_ok-run.run' in
    let from = g.S.Source.left c.args.source.now in
    let start = g.K.Sink.written c.args.sink.now in
    let left = g.S.Source.left c.take_all-outcome.new.source in
    let finishes = c.take_all-outcome.ensures.taken account run.writer start from (begun_line account run c.in_ok-run.ensures from start) in
    left_of account start from left (g.K.Sink.written c.finish.new.sink) c.finish.result
    (c.finish.ensures.finished account run.writer start from left (begun_bare run c.in_ok-run.ensures) (begun_few run c.in_ok-run.ensures c.take_all-outcome.new.self.writer c.take_all-outcome.ensures.room) finishes)

pub returns-clause-late : goal.returns-clause-late
returns-clause-late g c = λ unsaid. c.take_all-outcome.ensures.late (λ said. absurd (true≢false (sym said ∙ unsaid)))
