use Rattle.std.proofs.Common.{◌≡◌, ℕ, List, [], ◌∷◌, take, Option, None, Some, Result, Ok, Err, refl}
use Rattle.lab_text.specs.Line.{input_limit}
use Rattle.lab_text.specs.Lines.{lines_of}
use Rattle.trace_model.specs.declared.line.TraceLine.{TraceLine}
use Rattle.trace_model.specs.declared.refusal.TraceRefusal.{TraceRefusal}
use Rattle.trace_model.specs.declared.verdict.Step.{Step}
use Rattle.trace_model.specs.declared.verdict.Step.TheVariants.{Good, No}
use Rattle.trace_model.specs.Lines.{after, line_says}
use Rattle.trace_model.specs.Known.{known}
use Rattle.trace_model.specs.Audit.{ReadSoFar, nothing_read, past_after, with_said, judged_said, line_judged, Outcome, Yes, outcome_by, audit_from, audit_of}
use Rattle.law_trace.specs.Meaning.{AtEach, IsClean, past_behind, trace_of}
use Rattle.law_trace.proofs.Clean.{clean}
use Rattle.law_trace.proofs.yes.yes_is_of_clean_traces.Goals as goal

-- an audit that says yes goes on behind a line that is good
goes_on : (past : ReadSoFar) (onward : Outcome) (answer : Result Step TraceRefusal) (links puts binds : ℕ) → outcome_by past onward answer ≡ Yes links puts binds → (answer ≡ Ok Good) × (onward ≡ Yes links puts binds)
goes_on past onward (Ok Good) links puts binds e = (refl, e)
goes_on past onward (Ok (No found)) links puts binds e = absurd (cc e)
goes_on past onward (Err refusal) links puts binds e = absurd (cc e)

-- a good line leaves the trace clean
kept : (past : ReadSoFar) (said : Result (Option TraceLine) TraceRefusal) → AtEach IsClean past.trace → after (judged_said (known past.trace)) said ≡ Ok Good → AtEach IsClean (with_said past.trace said)
kept past (Ok None) each e = each
kept past (Ok (Some line)) each e = (clean past.trace line e, each)
kept past (Err refusal) each e = absurd (cc e)

all_clean : (lines : List (List ℕ)) (past : ReadSoFar) (links puts binds : ℕ) → audit_from past lines ≡ Yes links puts binds → AtEach IsClean past.trace → AtEach IsClean (past_behind past lines).trace
all_clean [] past links puts binds e each = each
all_clean (line ∷ lines) past links puts binds e each =
    let step = goes_on past (audit_from (past_after past line) lines) (line_judged past.octets (known past.trace) line) links puts binds e in
    all_clean lines (past_after past line) links puts binds step.1 (kept past (line_says past.octets line) each step.0)

said_yes : (octets : List ℕ) (links puts binds : ℕ) → audit_of octets ≡ Yes links puts binds → AtEach IsClean (trace_of octets)
unfolding audit_of
said_yes octets links puts binds e = all_clean (lines_of (take input_limit octets)) nothing_read links puts binds e tt

pub returns : goal.returns
returns c = said_yes
