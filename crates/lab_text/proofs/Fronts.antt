-- A text is written part by part, and the writing breaks off

use Rattle.std.proofs.Common.{◌≡◌, List, ℕ, [], ◌∷◌, ◌++◌, ◌≤◌, append_assoc, append-nil, length, take, drop, take-append-drop, Result, Ok, Err, OnErr, refl, sym, ap, subst, ◌∙◌, arith}
use Rattle.std.proofs.lemmas.List.{length-append, length-take, take_all, take_at, take-take, take-append-le}
use Rattle.lab_text.specs.Kept.{BreaksOff}

-- nothing was written
pub begun : (old a new : List ℕ) → new ≡ old → BreaksOff old (old ++ a) new
begun old a new same = record {
  kept = rw same (take_all (length old) old (omega arith));
  front = rw same (take-append-le (length old) old a (omega arith) ∙ take_all (length old) old (omega arith));
}

-- the first part was, and some of the others
pub next : (old mid a rest new : List ℕ) → mid ≡ old ++ a → BreaksOff mid (mid ++ rest) new → BreaksOff old (old ++ (a ++ rest)) new
next old mid a rest new first broke = record {
  kept =
      sym (take-take (length old) (length mid) new (omega (arith, ap length first, length-append old a)))
      ∙ (ap (take (length old)) (broke.kept ∙ first) ∙ take_at old a (length old) refl);
  front = ap (take (length new)) (sym (append_assoc old a rest) ∙ ap (λ xs. xs ++ rest) (sym first)) ∙ broke.front;
}

within : (whole new : List ℕ) → take (length new) whole ≡ new → length new ≤ length whole
within whole new front = omega (arith, length-take (length new) whole, ap length front)

-- some of the first part was
pub here : (old a rest new : List ℕ) → BreaksOff old (old ++ a) new → BreaksOff old (old ++ (a ++ rest)) new
here old a rest new broke = record {
  kept = broke.kept;
  front =
      ap (take (length new)) (sym (append_assoc old a rest))
      ∙ (take-append-le (length new) (old ++ a) rest (within (old ++ a) new broke.front) ∙ broke.front);
}

-- the same, with the part in other words
pub as_text : (old a b new : List ℕ) → a ≡ b → BreaksOff old (old ++ a) new → BreaksOff old (old ++ b) new
as_text old a b new e broke = subst (λ (xs : List ℕ). BreaksOff old (old ++ xs) new) e broke

pub next_as : (old mid a b rest new : List ℕ) → a ≡ b → mid ≡ old ++ a → BreaksOff mid (mid ++ rest) new → BreaksOff old (old ++ (b ++ rest)) new
next_as old mid a b rest new e first broke = as_text old (a ++ rest) (b ++ rest) new (ap (λ xs. xs ++ rest) e) (next old mid a rest new first broke)

pub here_as : (old a b rest new : List ℕ) → a ≡ b → BreaksOff old (old ++ a) new → BreaksOff old (old ++ (b ++ rest)) new
here_as old a b rest new e broke = here old b rest new (as_text old a b new e broke)

-- the parts so far are a front of the text
pub longer : (old same text new : List ℕ) → BreaksOff old (old ++ same) new → take (length same) text ≡ same → BreaksOff old (old ++ text) new
longer old same text new broke begins =
    as_text old (same ++ drop (length same) text) text new
    (ap (λ (xs : List ℕ). xs ++ drop (length same) text) (sym begins) ∙ take-append-drop (length same) text)
    (here old same (drop (length same) text) new broke)

-- how they are seen to be one, part by part
pub front_parts : (a b c : List ℕ) → take (length (a ++ b)) (a ++ c) ≡ a ++ take (length b) c
front_parts [] b c = refl
front_parts (x ∷ a) b c = ap (λ xs. x ∷ xs) (front_parts a b c)

pub front_part : (a c : List ℕ) → take (length a) (a ++ c) ≡ a
front_part a c = take_at a c (length a) refl

pub front_whole : (a : List ℕ) → take (length a) a ≡ a
front_whole a = take_all (length a) a (omega arith)

pub ruleset fronts = (front_parts, front_part, front_whole, append_assoc, append-nil)

-- what follows from a fact of an outcome that is Err
pub on_err : {T E : Type 0} (outcome : Result T E) (A B : Type 0) → (A → B) → OnErr outcome A → OnErr outcome B
on_err (Ok value) A B follows holds = holds
on_err (Err error) A B follows holds = follows holds

pub said : {T E : Type 0} (outcome : Result T E) (A : Type 0) → A → OnErr outcome A
said (Ok value) A holds = tt
said (Err error) A holds = holds
