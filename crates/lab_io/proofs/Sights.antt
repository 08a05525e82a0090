-- What was seen in several reads

use Rattle.std.proofs.Common.{◌≡◌, ◌∙◌, ℕ, List, [], ◌++◌, Option, None, Some, Result, Ok, Err, OnErr, sym, ap, subst, append-nil}
use Rattle.std.specs.Io.KnownBytes.{Consumes, Keeps}
use Rattle.std.proofs.KnownBytes.{Consumes-trans}
use Rattle.std.proofs.lemmas.List.{append_assoc}
use Rattle.lab_io.specs.Lines.{Reader, Answer}
use Rattle.lab_io.specs.Reading.{IsKept, IsNext, Saw}

pub on_err : {T E P : Type 0} (result : Result T E) → P → OnErr result P
on_err (Ok value) fact = tt
on_err (Err error) fact = fact

-- a source that lost nothing
consumed_none : (old new : Option (List ℕ)) → Keeps old new → Consumes old new []
consumed_none None new kept = tt
consumed_none (Some there) None kept = absurd kept
consumed_none (Some there) (Some rest) kept = sym kept

pub saw_none : (held : List ℕ) (old new : Option (List ℕ)) (seen : List ℕ) → seen ≡ held → Keeps old new → Saw held old new seen
saw_none held old new seen is kept =
    record { read = []; consumed = consumed_none old new kept; behind = is ∙ sym (append-nil held) }

pub saw_more : (held : List ℕ) (first second third : Option (List ℕ)) (seen octets : List ℕ)
    → Saw held first second seen → Consumes second third octets → Saw held first third (seen ++ octets)
saw_more held first second third seen octets saw more =
    record {
      read = saw.read ++ octets;
      consumed = Consumes-trans _ _ _ _ _ saw.consumed more;
      behind = ap (λ xs. xs ++ octets) saw.behind ∙ append_assoc held saw.read octets;
    }

pub saw_after : (held middle : List ℕ) (first second third : Option (List ℕ)) (seen : List ℕ)
    → Saw held first second middle → Saw middle second third seen → Saw held first third seen
saw_after held middle first second third seen before after =
    record {
      read = before.read ++ after.read;
      consumed = Consumes-trans _ _ _ _ _ before.consumed after.consumed;
      behind = after.behind ∙ ap (λ xs. xs ++ after.read) before.behind ∙ append_assoc held before.read after.read;
    }

-- an answer behind reads that had none
pub next_after : (old middle new : Reader) (first second third : Option (List ℕ)) (answer : Answer) → Saw old.held first second middle.held
    → middle.given ≡ old.given → IsNext middle new second third answer → IsNext old new first third answer
next_after old middle new first second third answer saw given next =
    record {
      seen = next.seen;
      saw = saw_after old.held middle.held first second third next.seen saw next.saw;
      answered = rw given at next.answered;
      kept = subst (λ (n : ℕ). IsKept n new next.seen answer) given next.kept;
    }
