use Rattle.std.proofs.Common.{◌≡◌, ℕ, List, Some, Result, IfOk, IfErr, subst, sym}
use Rattle.line_by_line.specs.declared.fault.LineFault.{LineFault}
use Rattle.line_by_line.specs.declared.task.Ending.{Ending}
use Rattle.line_by_line.specs.Account.{Account}
use Rattle.line_by_line.specs.Report.{IsAccountOf, IsDone, IsLeft}
use Rattle.line_by_line.proofs.Beginning.{nothing_told}
use Rattle.line_by_line.proofs.Outcomes.{err_is}
use Rattle.audit_run.specs.Audit.{audit_account}
use Rattle.audit_run.proofs.run.audit.Goals as goal

pub returns-in_err-task-clause-left : goal.returns-in_err-task-clause-left
returns-in_err-task-clause-left g c =
    subst (λ (r : Result Ending LineFault). IfErr r (λ fault. IsLeft fault audit_account (g.S.Source.left c.args.source.now) (g.S.Source.left c.args.source.now) (g.K.Sink.written c.args.sink.now) (g.K.Sink.written c.args.sink.now)))
    (sym (err_is c.from_residual.result _ c.from_residual.ensures.1)) (nothing_told audit_account (g.S.Source.left c.args.source.now) (g.K.Sink.written c.args.sink.now))

pub returns-clause-done : goal.returns-clause-done
returns-clause-done g c =
    subst (λ (account : List (List ℕ) → Account Ending). IfOk c.run_lines.result (IsDone account (g.S.Source.left c.args.source.now) (g.S.Source.left c.run_lines.new.source) (g.K.Sink.written c.args.sink.now) (g.K.Sink.written c.run_lines.new.sink)))
    (λ i lines. c.in_ok-task.ensures.account lines i) c.run_lines.ensures.done

pub returns-clause-complete : goal.returns-clause-complete
returns-clause-complete g c =
    subst (λ (account : List (List ℕ) → Account Ending). IfOk c.run_lines.result (λ ending. (input : List ℕ) → g.S.Source.left c.args.source.now ≡ Some input → IsAccountOf account input ending (g.K.Sink.written c.args.sink.now) (g.K.Sink.written c.run_lines.new.sink)))
    (λ i lines. c.in_ok-task.ensures.account lines i) c.run_lines.ensures.complete

pub returns-clause-left : goal.returns-clause-left
returns-clause-left g c =
    subst (λ (account : List (List ℕ) → Account Ending). IfErr c.run_lines.result (λ fault. IsLeft fault account (g.S.Source.left c.args.source.now) (g.S.Source.left c.run_lines.new.source) (g.K.Sink.written c.args.sink.now) (g.K.Sink.written c.run_lines.new.sink)))
    (λ i lines. c.in_ok-task.ensures.account lines i) c.run_lines.ensures.left
