use Rattle.std.proofs.Common.{◌≡◌, ℕ, List, Some, IfOk, IfErr, subst}
use Rattle.line_by_line.specs.declared.task.Ending.{Ending}
use Rattle.line_by_line.specs.Account.{Account}
use Rattle.line_by_line.specs.Report.{IsAccountOf, IsDone, IsLeft}
use Rattle.console_run.proofs.run.console.Goals as goal

pub returns-clause-done : goal.returns-clause-done
returns-clause-done g c =
    subst (λ (account : List (List ℕ) → Account Ending). IfOk c.run_lines-outcome.result (IsDone account (g.S.Source.left c.args.source.now) (g.S.Source.left c.run_lines-outcome.new.source) (g.K.Sink.written c.args.sink.now) (g.K.Sink.written c.run_lines-outcome.new.sink)))
    (λ i lines. c.new-task.ensures.account lines i) c.run_lines-outcome.ensures.done

pub returns-clause-complete : goal.returns-clause-complete
returns-clause-complete g c =
    subst (λ (account : List (List ℕ) → Account Ending). IfOk c.run_lines-outcome.result (λ ending. (input : List ℕ) → g.S.Source.left c.args.source.now ≡ Some input → IsAccountOf account input ending (g.K.Sink.written c.args.sink.now) (g.K.Sink.written c.run_lines-outcome.new.sink)))
    (λ i lines. c.new-task.ensures.account lines i) c.run_lines-outcome.ensures.complete

pub returns-clause-left : goal.returns-clause-left
returns-clause-left g c =
    subst (λ (account : List (List ℕ) → Account Ending). IfErr c.run_lines-outcome.result (λ fault. IsLeft fault account (g.S.Source.left c.args.source.now) (g.S.Source.left c.run_lines-outcome.new.source) (g.K.Sink.written c.args.sink.now) (g.K.Sink.written c.run_lines-outcome.new.sink)))
    (λ i lines. c.new-task.ensures.account lines i) c.run_lines-outcome.ensures.left
