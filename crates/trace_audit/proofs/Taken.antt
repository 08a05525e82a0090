-- an auditor that took some lines takes one more

use Rattle.std.proofs.Common.{◌≡◌, ◌∙◌, ℕ, ◌+◌, List, length, Option, None, Some, Result, Ok, Err, refl, sym, ap, subst}
use Rattle.trace_model.specs.declared.line.TraceLine.{TraceLine}
use Rattle.trace_model.specs.declared.refusal.TraceRefusal.{TraceRefusal}
use Rattle.trace_model.specs.declared.verdict.Step.{Step}
use Rattle.trace_model.specs.declared.verdict.Step.TheVariants.{Good, No}
use Rattle.trace_model.specs.Lines.{after, line_says}
use Rattle.trace_model.specs.Known.{Known, known}
use Rattle.trace_model.specs.Audit.{ReadSoFar, past_after, judged_said, line_judged, with_said}
use Rattle.trace_audit.specs.declared.auditor.Auditor.{Auditor}
use Rattle.trace_audit.specs.declared.fault.AuditFault.{AuditFault}
use Rattle.trace_audit.specs.After.{after_line, after_answer}
use Rattle.trace_audit.specs.Faults.{Tells, WhenGood}
use Rattle.trace_audit.specs.Held.{Follows, known_by, octets_of}
use Rattle.trace_model.specs.Trace.{Trace}
use Rattle.trace_audit.proofs.Moves.{IsServed, moved, still_served}

-- behind what a line says
follows-said : (past : ReadSoFar) (new : Auditor) (octets : ℕ) (lines : ℕ) (said : Result (Option TraceLine) TraceRefusal) (old : Auditor) → Follows past old → after (judged_said (known past.trace)) said ≡ Ok Good
    → known_by new ≡ after_answer (known past.trace) said → octets_of new ≡ octets
    → Follows (record { lines = lines; octets = octets; trace = with_said past.trace said }) new
follows-said past new octets lines (Ok None) old follows good same told = record { known_is = same; octets_are = told; served = follows.served }
follows-said past new octets lines (Ok (Some line)) old follows good same told = record {
  known_is = same ∙ sym (moved past.trace line follows.served);
  octets_are = told;
  served = still_served past.trace line follows.served good;
}
follows-said past new octets lines (Err refusal) old follows good same told = absurd (cc good)

pub follows-line : (past : ReadSoFar) (old new : Auditor) (line : List ℕ) (answer : Result Step AuditFault) → Follows past old → Tells (line_judged (octets_of old) (known_by old) line) answer
    → WhenGood answer (known_by new ≡ after_line (octets_of old) (known_by old) line) → WhenGood answer (octets_of new ≡ octets_of old + length line)
    → WhenGood answer (Follows (past_after past line) new)
follows-line past old new line (Ok Good) follows told same octets =
    let judged = subst (λ (k : Known). line_judged past.octets k line ≡ Ok Good) follows.known_is
    (subst (λ (n : ℕ). line_judged n (known_by old) line ≡ Ok Good) follows.octets_are told) in
    let known_is = subst (λ (k : Known). known_by new ≡ after_line past.octets k line) follows.known_is
    (subst (λ (n : ℕ). known_by new ≡ after_line n (known_by old) line) follows.octets_are same) in
    follows-said past new (past.octets + length line) (past.lines + 1) (line_says past.octets line) old follows judged known_is (octets ∙ ap (λ n. n + length line) follows.octets_are)
follows-line past old new line (Ok (No found)) follows told same octets = tt
follows-line past old new line (Err fault) follows told same octets = tt

-- *The same by what is known*: a good line takes what is known of a trace to what is known behind it
moved-said : (trace : Trace) (said : Result (Option TraceLine) TraceRefusal) → IsServed trace → after (judged_said (known trace)) said ≡ Ok Good
    → (known (with_said trace said) ≡ after_answer (known trace) said) × IsServed (with_said trace said)
moved-said trace (Ok None) within good = (refl, within)
moved-said trace (Ok (Some line)) within good = (moved trace line within, still_served trace line within good)
moved-said trace (Err refusal) within good = absurd (cc good)

pub moved-line : (past : ReadSoFar) (line : List ℕ) → IsServed past.trace → line_judged past.octets (known past.trace) line ≡ Ok Good
    → (known (past_after past line).trace ≡ after_line past.octets (known past.trace) line) × IsServed (past_after past line).trace
moved-line past line within good = moved-said past.trace (line_says past.octets line) within good
