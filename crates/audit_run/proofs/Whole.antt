-- what an auditor makes of the lines to come is the audit of the whole input

use Rattle.std.proofs.Common.{◌≡◌, ◌∙◌, ℕ, ◌+◌, List, [], ◌∷◌, length, Result, Ok, Err, refl, sym, ap}
use Rattle.trace_model.specs.declared.refusal.TraceRefusal.{TraceRefusal}
use Rattle.trace_model.specs.declared.verdict.Step.{Step}
use Rattle.trace_model.specs.declared.verdict.Step.TheVariants.{Good, No}
use Rattle.trace_model.specs.Known.{Known, known}
use Rattle.line_by_line.specs.Account.{report}
use Rattle.line_by_line.specs.Report.{account_of}
use Rattle.trace_model.specs.Audit.{audit_of, audit_report, ReadSoFar, nothing_read, past_after, line_judged, outcome_by, audit_from}
use Rattle.trace_audit.specs.declared.auditor.Auditor.{Auditor}
use Rattle.trace_audit.specs.After.{after_line}
use Rattle.trace_audit.specs.Held.{Follows, known_by, octets_of}
use Rattle.trace_audit.proofs.Moves.{IsServed}
use Rattle.trace_audit.proofs.Taken.{moved-line}
use Rattle.audit_run.specs.Audit.{told, audit_account}
use Rattle.audit_run.specs.Task.{outcome_on, outcome_from}

-- one line more
onward : (past : ReadSoFar) (line : List ℕ) (coming : List (List ℕ)) → IsServed past.trace → (answer : Result Step TraceRefusal) → line_judged past.octets (known past.trace) line ≡ answer
    → (IsServed (past_after past line).trace → outcome_from (past.lines + 1) (past.octets + length line) (known (past_after past line).trace) coming ≡ audit_from (past_after past line) coming)
    → outcome_on past.lines (outcome_from (past.lines + 1) (past.octets + length line) (after_line past.octets (known past.trace) line) coming) answer ≡ outcome_by past (audit_from (past_after past line) coming) answer
onward past line coming within (Ok Good) good rest =
    let next = moved-line past line within good in
    ap (λ (k : Known). outcome_from (past.lines + 1) (past.octets + length line) k coming) (sym next.0) ∙ rest next.1
onward past line coming within (Ok (No breach)) bad rest = refl
onward past line coming within (Err refusal) bad rest = refl

whole : (lines : List (List ℕ)) (past : ReadSoFar) → IsServed past.trace → outcome_from past.lines past.octets (known past.trace) lines ≡ audit_from past lines
whole [] past within = refl
whole (line ∷ lines) past within =
    onward past line lines within (line_judged past.octets (known past.trace) line) refl (λ next. whole lines (past_after past line) next)

pub opened : (auditor : Auditor) → Follows nothing_read auditor → (lines : List (List ℕ)) → told (outcome_from 0 (octets_of auditor) (known_by auditor) lines) ≡ audit_account lines
opened auditor follows lines =
    ap told (ap (λ (k : Known). outcome_from 0 (octets_of auditor) k lines) follows.known_is ∙ ap (λ (n : ℕ). outcome_from 0 n (known []) lines) follows.octets_are
    ∙ whole lines nothing_read follows.served)

-- *Of an input*
pub account_is : (input : List ℕ) → account_of audit_account input ≡ told (audit_of input)
unfolding audit_of
account_is input = refl

pub report_is : (input : List ℕ) → report (account_of audit_account input) ≡ audit_report input
report_is input = ap report (account_is input)
