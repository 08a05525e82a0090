-- Tasks that take the lines of their input one by one

use Rattle.std.specs.Prelude.{ℕ, List}
use Rattle.line_by_line.specs.declared.task.Ending.{Ending}
use Rattle.line_by_line.specs.Account.{Account}
use Rattle.trace_model.specs.Audit.{audit_of}
use Rattle.audit_run.specs.Audit.{audit_account, ending_of}
use Rattle.console_run.specs.Session.{session_of}
use Rattle.console_run.specs.Report as sessions
use Rattle.commands.specs.declared.task.Lined.{Lined}
use Rattle.commands.specs.declared.task.Lined.TheVariants.{Audit, Console}

-- *What such a task makes of lines*: of a trace its audit, and of a console's session its report
abbrev pub lined_account : Lined → (lines : List (List ℕ)) → Account Ending
lined_account Audit = audit_account
lined_account Console = sessions.console_account

-- how it ends with an input: a trace is good (`Done`), or isn't (`Denied`); and a line of either may be refused
abbrev pub lined_ending : Lined → (input : List ℕ) → Ending
lined_ending Audit input = ending_of (audit_of input)
lined_ending Console input = sessions.ending_of (session_of input).refused
