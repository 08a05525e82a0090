-- what a task does with a line, and at the end

use Rattle.std.proofs.Common.{◌≡◌, ◌∙◌, ℕ, ◌+◌, Bool, true, false, cond, nat_lt, List, [], ◌∷◌, length, Option, Some, Result, Ok, Err, refl, sym, ap, subst, arith}
use Rattle.std.proofs.lemmas.Bool.Decides.{nat_tests}
use Rattle.std.specs.Option.{option_and_then}
use Rattle.lab_io.specs.Report.{Writer}
use Rattle.lab_text.specs.declared.line.LineFault.{LineFault}
use Rattle.lab_text.specs.declared.line.LineFault.TheVariants as fault
use Rattle.lab_text.specs.Line.{input_limit, line_limit, text_fault, holds_octet}
use Rattle.lab_text.specs.Words.{line_text}
use Rattle.lab_io.specs.declared.stop.Stop.{Stop}
use Rattle.line_by_line.specs.declared.task.Ending.{Ending}
use Rattle.line_by_line.specs.Account.{Account, caused, report}
use Rattle.lab_io.specs.Puts.{HasFrontPut, StopsIn}
use Rattle.line_by_line.specs.Steps.{Concludes, GoesOn, IsPast, IsTooLong, Settles}
use Rattle.lab_io.proofs.Stops.{nothing_put}
use Rattle.trace_model.specs.declared.refusal.TraceRefusal.{TraceRefusal}
use Rattle.trace_model.specs.declared.refusal.TraceRefusal.TheVariants.{ScriptTooLong, LineTooLong}
use Rattle.trace_model.specs.declared.verdict.Breach.{Breach}
use Rattle.trace_model.specs.declared.verdict.Step.{Step}
use Rattle.trace_model.specs.declared.verdict.Step.TheVariants.{Good, No}
use Rattle.trace_model.specs.Lines.{after, fault_name, says_by, text_says}
use Rattle.trace_model.specs.Known.{Known}
use Rattle.trace_model.specs.Audit.{Breaks, Refuses, judged_said, line_judged}
use Rattle.trace_audit.specs.After.{after_line}
use Rattle.audit_run.specs.Audit.{told}
use Rattle.audit_run.specs.Task.{outcome_on, outcome_from}

module _ (lines octets : ℕ) (known : Known) (line : List ℕ) where
  abbrev account : (coming : List (List ℕ)) → Account Ending
  account coming = told (outcome_from lines octets known coming)

  by_answer : (answer : Result Step TraceRefusal) (others : List (List ℕ)) → line_judged octets known line ≡ answer
      → account (line ∷ others) ≡ told (outcome_on lines (outcome_from (lines + 1) (octets + length line) (after_line octets known line) others) answer)
  by_answer answer others is =
      ap (λ (a : Result Step TraceRefusal). told (outcome_on lines (outcome_from (lines + 1) (octets + length line) (after_line octets known line) others) a)) is

  -- a good line
  pub goes : (lines_new octets_new : ℕ) (known_new : Known) (writer : Writer) (written : Option (List ℕ)) → line_judged octets known line ≡ Ok Good
      → lines_new ≡ lines + 1 → octets_new ≡ octets + length line → known_new ≡ after_line octets known line
      → GoesOn account (λ coming. told (outcome_from lines_new octets_new known_new coming)) line writer writer written written
  goes lines_new octets_new known_new writer written good more long next = record {
    octets = [];
    same = λ others. by_answer (Ok Good) others good ∙ (λ i. told (outcome_from ((sym more) i) ((sym long) i) ((sym next) i) others));
    put = nothing_put writer written;
  }

  -- a line that ends the audit
  pub denied : (breach : Breach) (result : Result Ending Stop) (old new : Writer) (written then : Option (List ℕ)) → line_judged octets known line ≡ Ok (No breach)
      → Concludes (told (Breaks (lines + 1) breach)) result old new written then → Settles account line result old new written then
  denied breach result old new written then is concluded = record {
    account = told (Breaks (lines + 1) breach);
    same = λ others. by_answer (Ok (No breach)) others is;
    is_ended = refl;
    concluded = concluded;
  }

  pub refused : (refusal : TraceRefusal) (result : Result Ending Stop) (old new : Writer) (written then : Option (List ℕ)) → line_judged octets known line ≡ Err refusal
      → Concludes (told (Refuses (lines + 1) refusal)) result old new written then → Settles account line result old new written then
  refused refusal result old new written then is concluded = record {
    account = told (Refuses (lines + 1) refusal);
    same = λ others. by_answer (Err refusal) others is;
    is_ended = refl;
    concluded = concluded;
  }

  -- an early end in it
  pub denied_early : (breach : Breach) (stop : Stop) (old new : Writer) (written then : Option (List ℕ)) → line_judged octets known line ≡ Ok (No breach)
      → StopsIn stop old new written then (report (told (Breaks (lines + 1) breach))) → StopsIn stop old new written then (caused (account (line ∷ [])))
  denied_early breach stop old new written then is stops =
      subst (λ (a : Account Ending). StopsIn stop old new written then (caused a)) (sym (by_answer (Ok (No breach)) [] is)) stops

  pub refused_early : (refusal : TraceRefusal) (stop : Stop) (old new : Writer) (written then : Option (List ℕ)) → line_judged octets known line ≡ Err refusal
      → StopsIn stop old new written then (report (told (Refuses (lines + 1) refusal))) → StopsIn stop old new written then (caused (account (line ∷ [])))
  refused_early refusal stop old new written then is stops =
      subst (λ (a : Account Ending). StopsIn stop old new written then (caused a)) (sym (by_answer (Err refusal) [] is)) stops

  -- lines whose octets aren't kept
  pub long_is : IsTooLong octets line → line_judged octets known line ≡ Err LineTooLong
  long_is is =
      let low : holds_octet octets line input_limit ≡ false = grind (arith, nat_tests, is.within) in
      let long : nat_lt line_limit (length (line_text line)) ≡ true = grind (arith, nat_tests, is.long) in
      ap (λ (f : Option LineFault). after (judged_said known) (says_by (option_and_then fault_name f) (text_says (line_text line))))
      (ap (λ (b : Bool). cond b (Some fault.ScriptTooLong) (text_fault (line_text line))) low
      ∙ text_long long)
    where
      text_long : nat_lt line_limit (length (line_text line)) ≡ true → text_fault (line_text line) ≡ Some fault.LineTooLong
      text_long long = rw long refl

  pub past_is : IsPast octets line → line_judged octets known line ≡ Err ScriptTooLong
  past_is is =
      let held : holds_octet octets line input_limit ≡ true = grind (arith, nat_tests, is.within, is.past) in
      ap (λ (f : Option LineFault). after (judged_said known) (says_by (option_and_then fault_name f) (text_says (line_text line))))
      (ap (λ (b : Bool). cond b (Some fault.ScriptTooLong) (text_fault (line_text line))) held)

-- nothing was put where memory was wanting
pub nothing_yet : (w : Writer) (s : Option (List ℕ)) (octets : List ℕ) → HasFrontPut w w s s octets
nothing_yet w s octets = record { front = []; rest = octets; all = refl; put = nothing_put w s }
