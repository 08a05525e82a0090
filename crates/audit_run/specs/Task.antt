-- what an auditor makes of the lines to come

use Rattle.std.specs.Prelude.{◌≡◌, refl, ℕ, ◌+◌, ◌≤◌, Bool, true, false, if◌then◌else◌, List, [], ◌∷◌, length, Result, Ok, Err}
use Rattle.line_by_line.specs.declared.task.Ending.{Ending}
use Rattle.line_by_line.specs.Account.{Account}
use Rattle.trace_model.specs.declared.refusal.TraceRefusal.{TraceRefusal}
use Rattle.trace_model.specs.declared.verdict.Step.{Step}
use Rattle.trace_model.specs.declared.verdict.Step.TheVariants.{Good, No}
use Rattle.trace_model.specs.Known.{Known}
use Rattle.trace_model.specs.Audit.{Outcome, Yes, Breaks, Refuses, Unended, outcome_at_end, line_judged}
use Rattle.trace_audit.specs.After.{after_line}
use Rattle.trace_audit.specs.Held.{known_by, octets_of}
use Rattle.audit_run.specs.declared.outcome.AuditOutcome.{AuditOutcome}
use Rattle.audit_run.specs.declared.outcome.AuditOutcome.TheVariants as audit
use Rattle.audit_run.specs.declared.task.AuditTask.{AuditTask}
use Rattle.audit_run.specs.Audit.{is_of_line, told}

abbrev pub outcome_on : (lines : ℕ) → (onward : Outcome) → Result Step TraceRefusal → Outcome
outcome_on lines onward (Ok Good) = onward
outcome_on lines onward (Ok (No breach)) = Breaks (lines + 1) breach
outcome_on lines onward (Err refusal) = Refuses (lines + 1) refusal

-- behind so many lines and octets, by what is known of them
abbrev pub outcome_from : (lines octets : ℕ) → Known → (coming : List (List ℕ)) → Outcome
outcome_from lines octets known [] = outcome_at_end lines known
outcome_from lines octets known (line ∷ coming) =
    outcome_on lines (outcome_from (lines + 1) (octets + length line) (after_line octets known line) coming) (line_judged octets known line)

-- *An outcome* as its definition has it
abbrev pub outcome_of : AuditOutcome → Outcome
outcome_of (audit.Yes counts) = Yes counts.links counts.puts counts.binds
outcome_of (audit.Breaks number breach) = Breaks number breach
outcome_of (audit.Refuses number refusal) = Refuses number refusal
outcome_of (audit.Unended number) = Unended number

-- *A task*
abbrev pub task_octets : AuditTask → ℕ
task_octets task = octets_of task.auditor

abbrev pub task_account : AuditTask → (coming : List (List ℕ)) → Account Ending
task_account task coming = told (outcome_from task.lines (task_octets task) (known_by task.auditor) coming)

-- fewer lines than octets
abbrev pub IsCounted : AuditTask → Type 0
IsCounted task = task.lines ≤ task_octets task

-- where no line comes, none ends the audit
by_end : (lines : ℕ) (known : Known) (ended : Bool) → is_of_line (if ended then Yes known.links known.puts known.binds else Unended (lines + 1)) ≡ false
by_end lines known true = refl
by_end lines known false = refl

pub none_ends : (lines : ℕ) (known : Known) → is_of_line (outcome_at_end lines known) ≡ false
none_ends lines known = by_end lines known known.ended
