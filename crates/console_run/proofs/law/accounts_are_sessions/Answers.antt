use Rattle.console_run.proofs.Accounts.{account_is, report_is}
use Rattle.console_run.proofs.law.accounts_are_sessions.Goals as goal

pub returns-clause-account : goal.returns-clause-account
returns-clause-account c = account_is

pub returns-clause-report : goal.returns-clause-report
returns-clause-report c = report_is
