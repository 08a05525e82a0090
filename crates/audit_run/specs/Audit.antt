-- What an audit makes of lines: one line of report, and how it ends

use Rattle.std.specs.Prelude.{ℕ, Bool, true, false, List, []}
use Rattle.line_by_line.specs.declared.task.Ending.{Ending}
use Rattle.line_by_line.specs.declared.task.Ending.TheVariants.{Done, Refused, Denied}
use Rattle.line_by_line.specs.Account.{Account}
use Rattle.trace_model.specs.Audit.{Outcome, Yes, Breaks, Refuses, Unended, outcome_line, audit_from, nothing_read}

-- a trace that isn't good is denied
abbrev pub ending_of : Outcome → Ending
ending_of (Yes links puts binds) = Done
ending_of (Breaks number breach) = Denied
ending_of (Refuses number refusal) = Refused
ending_of (Unended number) = Refused

-- whether a line ends the audit; else the input's end does
abbrev pub is_of_line : Outcome → Bool
is_of_line (Yes links puts binds) = false
is_of_line (Breaks number breach) = true
is_of_line (Refuses number refusal) = true
is_of_line (Unended number) = false

abbrev pub told : Outcome → Account Ending
told outcome = record {
  body = [];
  last = outcome_line outcome;
  outcome = ending_of outcome;
  is_ended = is_of_line outcome;
}

-- *Of all lines of an input*
abbrev pub audit_account : (lines : List (List ℕ)) → Account Ending
audit_account lines = told (audit_from nothing_read lines)
