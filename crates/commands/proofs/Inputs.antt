-- A source that tells its octets: what was read of them is all that a task needs

use Rattle.std.proofs.Common.{◌≡◌, ℕ, ◌<◌, ◌≤◌, List, [], ◌∷◌, ◌++◌, Bool, true, length, length-append, take, Option, None, Some, is_some, refl, sym, ap, subst, ◌∙◌, arith, inl, inr, ◌⊎◌, append-nil, zero, suc, Result, Err}
use Rattle.std.specs.Prelude.{nat_le}
use Rattle.std.specs.Io.KnownBytes.{Consumes, IsAtEnd}
use Rattle.std.proofs.lemmas.Bool.Decides.{nat_tests}
use Rattle.std.proofs.lemmas.List.{take-append-le}
use Rattle.lab_text.specs.Lines.{lines_of}
use Rattle.message_text.specs.Listing.{fault_from, lines_in}
use Rattle.script_model.specs.Reading.{line_says}
use Rattle.script_model.specs.Script.{Script, script_of, script_from}
use Rattle.script_model.specs.State.{nothing_read}
use Rattle.script_model.specs.declared.refusal.DocumentRefusal.{DocumentRefusal}
use Rattle.script_model.specs.declared.refusal.DocumentRefusal.TheVariants.{ScriptTooLong}
use Rattle.script_model.specs.Documents.{Lines, document_of, document_rules, document_script, policy_with, rules_in, script_in}
use Rattle.world_model.specs.port_model.Setup.{Policy}
use Rattle.world_model.specs.Topology.{Topology, policy_of}
use Rattle.world.specs.declared.counts.Meter.{Meter}
use Rattle.script_replay.specs.network_replay.Along.{IsMetered}
use Rattle.script_model.specs.Drill.{drill_script}
use Rattle.script_model.specs.Judgement.{judged_refused}
use Rattle.commands.specs.declared.task.Task.{Task}
use Rattle.commands.specs.declared.task.Task.TheVariants as task
use Rattle.commands.specs.declared.task.Whole.{Whole}
use Rattle.commands.specs.declared.task.Whole.TheVariants.{Ideal, Decode, Rules}
use Rattle.line_by_line.specs.declared.task.Ending.{Ending}
use Rattle.commands.specs.Ending.{ending_by, task_ending, is_refused}
use Rattle.commands.specs.Run.{KeepsMeter}

below_or_at : (i n : ℕ) → i ≤ n → (i < n) ⊎ (n ≡ i)
below_or_at zero zero h = inr refl
below_or_at zero (suc n) h = inl (omega arith)
below_or_at (suc i) zero h = absurd (omega arith)
below_or_at (suc i) (suc n) h =
    elim (below_or_at i n (omega arith)) [ inl low ↦ inl (omega arith) | inr at ↦ inr (omega arith) ]

-- up to the limit, what was read is what was there
same_front : (limit : ℕ) (there input rest : List ℕ) → there ≡ input ++ rest → length input ≤ limit → (length input < limit → rest ≡ []) → take limit input ≡ take limit there
same_front limit there input [] e within whole = rw (e, append-nil) refl
same_front limit there input (octet ∷ rest) e within whole =
    elim (below_or_at (length input) limit within) [
      | inl low ↦ absurd (cc (whole low))
      | inr at ↦ rw e (sym (take-append-le limit input (octet ∷ rest) (omega (arith, at))))
    ]

-- *A document* that is as long as the limit is refused, whatever follows
long_document : (octets : List ℕ) → 16777217 ≤ length octets → document_of octets ≡ Err ScriptTooLong
unfolding document_of
long_document octets long = let yes : nat_le 16777217 (length octets) ≡ true = grind (nat_tests, arith, long) in rw yes refl

same_document : (there input rest : List ℕ) → there ≡ input ++ rest → length input ≤ 16777217 → (length input < 16777217 → rest ≡ []) → document_of input ≡ document_of there
same_document there input rest e within whole =
    elim (below_or_at (length input) 16777217 within) [
      | inl low ↦ ap document_of (sym (e ∙ (ap (λ (xs : List ℕ). input ++ xs) (whole low) ∙ append-nil input)))
      | inr at ↦ long_document input (omega (arith, at))
          ∙ sym (long_document there (omega (arith, at, ap length e, length-append input rest)))
    ]

-- *A whole input*
same_refusal : (whole : Whole) (there input rest : List ℕ) → there ≡ input ++ rest → length input ≤ 16777217 → (length input < 16777217 → rest ≡ []) → is_refused (task.Whole whole) input ≡ is_refused (task.Whole whole) there
unfolding script_of lines_in
same_refusal Ideal there input rest e within whole =
    ap (λ (octets : List ℕ). is_some (script_from line_says nothing_read (lines_of octets)).refused) (same_front 16777217 there input rest e within whole)
same_refusal (Decode protocol) there input rest e within whole =
    ap (λ (octets : List ℕ). is_some (fault_from 0 (lines_of octets))) (same_front 16777217 there input rest e within whole)
same_refusal Rules there input rest e within whole =
    ap (λ (found : Result Lines DocumentRefusal). is_some (judged_refused found)) (same_document there input rest e within whole)

read_refusal : (whole : Whole) (there input : List ℕ) (left_new : Option (List ℕ)) → Consumes (Some there) left_new input → length input ≤ 16777217 → (length input < 16777217 → IsAtEnd left_new) → is_refused (task.Whole whole) input ≡ is_refused (task.Whole whole) there
read_refusal whole there input None read within ending_by = absurd read
read_refusal whole there input (Some rest) read within ending_by = same_refusal whole there input rest read within ending_by

-- what is said of the octets read is said of the octets that were there
pub complete : (whole : Whole) (left_old left_new : Option (List ℕ)) (there input seen : List ℕ) (refused : Bool) → left_old ≡ Some there → Consumes left_old left_new input → length input ≤ 16777217 → (length input < 16777217 → IsAtEnd left_new)
    → seen ≡ input → refused ≡ is_refused (task.Whole whole) seen → (ending : Ending) → ending ≡ ending_by refused → ending ≡ task_ending (task.Whole whole) there
complete whole left_old left_new there input seen refused told read within whole_read at said ending is =
    is ∙ ap ending_by (said ∙ (ap (is_refused (task.Whole whole)) at ∙ read_refusal whole there input left_new (rw told at read) within whole_read))

-- *A document*
document_refusal : (there input : List ℕ) (left_new : Option (List ℕ)) → Consumes (Some there) left_new input → length input ≤ 16777217 → (length input < 16777217 → IsAtEnd left_new) → is_refused task.Document input ≡ is_refused task.Document there
document_refusal there input None read within ending_by = absurd read
document_refusal there input (Some rest) read within ending_by = ap (λ (found : Result Lines DocumentRefusal). is_some (script_in found).refused) (same_document there input rest read within ending_by)

pub document_complete : (left_old left_new : Option (List ℕ)) (there input seen : List ℕ) (refused : Bool) → left_old ≡ Some there → Consumes left_old left_new input → length input ≤ 16777217 → (length input < 16777217 → IsAtEnd left_new)
    → seen ≡ input → refused ≡ is_refused task.Document seen → (ending : Ending) → ending ≡ ending_by refused → ending ≡ task_ending task.Document there
document_complete left_old left_new there input seen refused told read within whole_read at said ending is =
    is ∙ ap ending_by (said ∙ (ap (is_refused task.Document) at ∙ document_refusal there input left_new (rw told at read) within whole_read))

-- and its meter
pub document_metered : (before meter : Meter) (left_old left_new : Option (List ℕ)) (there input seen : List ℕ) → left_old ≡ Some there → Consumes left_old left_new input → length input ≤ 16777217 → (length input < 16777217 → IsAtEnd left_new)
    → seen ≡ input → IsMetered (policy_with (document_rules seen)) before (document_script seen) meter → IsMetered (policy_with (document_rules there)) before (document_script there) meter
document_metered before meter left_old None there input seen told read within whole at k = absurd (rw told at read)
document_metered before meter left_old (Some rest) there input seen told read within whole at k =
    subst (λ (found : Result Lines DocumentRefusal). IsMetered (policy_with (rules_in found)) before (script_in found) meter)
    (ap document_of at ∙ same_document there input rest (rw told at read) within whole) k

-- no event was counted
uncounted : (choice : Topology → Policy) (before : Meter) (script : Script) → IsMetered choice before script before
uncounted choice before script = record { count = 0; within = omega arith; reading = refl }

pub still : (asked : Task) (left : Option (List ℕ)) (before : Meter) → KeepsMeter asked left before before
still task.Replay left before = λ input told. uncounted policy_of before (script_of input)
still (task.View view) left before = λ input told. uncounted policy_of before (script_of input)
still task.Document left before = λ input told. uncounted (policy_with (document_rules input)) before (document_script input)
still (task.Drill number) left before = uncounted policy_of before (drill_script number)
still (task.Whole whole) left before = refl
still (task.Lined lined) left before = refl
