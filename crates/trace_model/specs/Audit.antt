-- The audit of a whole input: its lines are judged in order, up to the first that is refused or shows the trace not good

use Rattle.std.specs.Prelude.{ℕ, ◌+◌, Bool, List, [], ◌∷◌, ◌++◌, length, take, codes, decimal, Option, None, Some, Result, Ok, Err, if◌then◌else◌}
use Rattle.lab_text.specs.Line.{input_limit}
use Rattle.lab_text.specs.Lines.{lines_of}
use Rattle.lab_text.specs.Text.{line_of}
use Rattle.trace_model.specs.declared.line.TraceLine.{TraceLine}
use Rattle.trace_model.specs.declared.refusal.TraceRefusal.{TraceRefusal}
use Rattle.trace_model.specs.declared.verdict.Breach.{Breach}
use Rattle.trace_model.specs.declared.verdict.Step.{Step}
use Rattle.trace_model.specs.declared.verdict.Step.TheVariants.{Good, No}
use Rattle.trace_model.specs.Lines.{after, line_says}
use Rattle.trace_model.specs.Trace.{Trace, has_ended}
use Rattle.trace_model.specs.Known.{Known, known}
use Rattle.trace_model.specs.Judgement.{judged}
use Rattle.trace_model.specs.Names.{refusal_name, breach_name}

-- how far an input was read: how many lines and octets, and its lines that aren't blank, the latest first
pub record ReadSoFar : Type 0 where
  pub lines : ℕ
  pub octets : ℕ
  pub trace : Trace

abbrev pub nothing_read : ReadSoFar
nothing_read = record { lines = 0; octets = 0; trace = [] }

-- *A line of the input*; a blank one is good
abbrev pub judged_said : Known → Option TraceLine → Result Step TraceRefusal
judged_said known None = Ok Good
judged_said known (Some line) = judged known line

abbrev pub line_judged : (octets : ℕ) → Known → (line : List ℕ) → Result Step TraceRefusal
line_judged octets known line = after (judged_said known) (line_says octets line)

abbrev pub with_said : Trace → Result (Option TraceLine) TraceRefusal → Trace
with_said trace (Ok (Some line)) = line ∷ trace
with_said trace answer = trace

abbrev pub past_after : ReadSoFar → (line : List ℕ) → ReadSoFar
past_after past line = record {
  lines = past.lines + 1;
  octets = past.octets + length line;
  trace = with_said past.trace (line_says past.octets line);
}

-- *The outcome*: the trace is good; a line shows that it isn't, or is refused; or the input ends before `end`. Numbers
-- of lines are counted from 1, blank ones too
pub data Outcome : Type 0 where
  Yes : (links puts binds : ℕ) → Outcome
  Breaks : (number : ℕ) → Breach → Outcome
  Refuses : (number : ℕ) → TraceRefusal → Outcome
  Unended : (number : ℕ) → Outcome

abbrev pub outcome_at_end : (lines : ℕ) → Known → Outcome
outcome_at_end lines known = if known.ended then Yes known.links known.puts known.binds else Unended (lines + 1)

abbrev pub outcome_by : ReadSoFar → (onward : Outcome) → Result Step TraceRefusal → Outcome
outcome_by past onward (Ok Good) = onward
outcome_by past onward (Ok (No breach)) = Breaks (past.lines + 1) breach
outcome_by past onward (Err refusal) = Refuses (past.lines + 1) refusal

abbrev pub audit_from : ReadSoFar → (lines : List (List ℕ)) → Outcome
audit_from past [] = outcome_at_end past.lines (known past.trace)
audit_from past (line ∷ lines) =
    outcome_by past (audit_from (past_after past line) lines) (line_judged past.octets (known past.trace) line)

-- nothing is read past the octet that no input may hold
unfoldable pub audit_of : List ℕ → Outcome
audit_of octets = audit_from nothing_read (lines_of (take input_limit octets))

-- *What is written*
abbrev pub outcome_words : Outcome → List (List ℕ)
outcome_words (Yes links puts binds) =
    codes "yes" ∷ codes "links" ∷ decimal links ∷ codes "puts" ∷ decimal puts ∷ codes "binds" ∷ decimal binds ∷ []
outcome_words (Breaks number breach) = codes "no" ∷ decimal number ∷ breach_name breach ∷ []
outcome_words (Refuses number refusal) = codes "refused" ∷ decimal number ∷ refusal_name refusal ∷ []
outcome_words (Unended number) = codes "refused" ∷ decimal number ∷ codes "NoEnd" ∷ []

abbrev pub outcome_line : Outcome → List ℕ
outcome_line outcome = line_of (outcome_words outcome)

abbrev pub audit_report : List ℕ → List ℕ
audit_report octets = outcome_line (audit_of octets)
