-- the first line of a text, and the others

use Rattle.std.proofs.Common.{◌≡◌, ℕ, suc, ◌+◌, ◌<◌, ◌≤◌, ◌==◌, List, [], ◌∷◌, Bool, true, false, length, take, drop, None, Some, refl, arith, ap, ◌∙◌, add-one}
use Rattle.std.specs.Prelude.{position}
use Rattle.std.specs.List.{position_or_len}
use Rattle.std.proofs.lemmas.Bool.Decides.{nat_tests}
use Rattle.std.proofs.lemmas.List.{take_all, drop_all}
use Rattle.lab_text.specs.Lines.{lines_of, begun_with}

abbrev pub feed : List ℕ → ℕ
feed octets = position_or_len (λ octet. octet == 10) octets

feed_at : (octet : ℕ) (octets : List ℕ) → octet == 10 ≡ true → feed (octet ∷ octets) ≡ 0
feed_at octet octets e = rw e refl

feed_later : (octet : ℕ) (octets : List ℕ) → octet == 10 ≡ false → feed (octet ∷ octets) ≡ suc (feed octets)
feed_later octet octets e = rw e (omega arith)

lines_at : (octet : ℕ) (octets : List ℕ) → octet == 10 ≡ true → lines_of (octet ∷ octets) ≡ (octet ∷ []) ∷ lines_of octets
lines_at octet octets e = rw e refl

lines_later : (octet : ℕ) (octets : List ℕ) → octet == 10 ≡ false → lines_of (octet ∷ octets) ≡ begun_with octet (lines_of octets)
lines_later octet octets e = rw e refl

begun_line : (octet : ℕ) (octets : List ℕ) (n : ℕ) → begun_with octet (take (suc n) octets ∷ lines_of (drop (suc n) octets)) ≡ take (suc (suc n)) (octet ∷ octets) ∷ lines_of (drop (suc (suc n)) (octet ∷ octets))
begun_line octet octets n = refl

pub first_line : (octets : List ℕ) → feed octets < length octets → lines_of octets ≡ take (suc (feed octets)) octets ∷ lines_of (drop (suc (feed octets)) octets)
first_line [] within = absurd (omega arith)
first_line (octet ∷ octets) within =
    let by : (b : Bool) → octet == 10 ≡ b → lines_of (octet ∷ octets) ≡ take (suc (feed (octet ∷ octets))) (octet ∷ octets) ∷ lines_of (drop (suc (feed (octet ∷ octets))) (octet ∷ octets)) = λ b eb.
    elim b as (λ v. octet == 10 ≡ v → lines_of (octet ∷ octets) ≡ take (suc (feed (octet ∷ octets))) (octet ∷ octets) ∷ lines_of (drop (suc (feed (octet ∷ octets))) (octet ∷ octets))) [
      | true ↦ λ e. rw (feed_at octet octets e) (lines_at octet octets e)
      | false ↦ λ e. (let low : feed octets < length octets = omega (arith, feed_later octet octets e, within) in
          rw (feed_later octet octets e) (lines_later octet octets e ∙ ap (begun_with octet) (first_line octets low)))
    ] eb in
    by _ refl

pub only_line : (octets : List ℕ) → 0 < length octets → length octets ≤ feed octets → lines_of octets ≡ octets ∷ []
only_line [] some past = absurd (omega arith)
only_line (octet ∷ []) some past =
    let by : (b : Bool) → octet == 10 ≡ b → lines_of (octet ∷ []) ≡ (octet ∷ []) ∷ [] = λ b eb.
    elim b as (λ v. octet == 10 ≡ v → lines_of (octet ∷ []) ≡ (octet ∷ []) ∷ []) [ true ↦ λ e. rw e refl | false ↦ λ e. rw e refl ] eb in
    by _ refl
only_line (octet ∷ next ∷ octets) some past =
    let by : (b : Bool) → octet == 10 ≡ b → lines_of (octet ∷ next ∷ octets) ≡ (octet ∷ next ∷ octets) ∷ [] = λ b eb.
    elim b as (λ v. octet == 10 ≡ v → lines_of (octet ∷ next ∷ octets) ≡ (octet ∷ next ∷ octets) ∷ []) [
      | true ↦ λ e. absurd (omega (arith, feed_at octet (next ∷ octets) e, past))
      | false ↦ λ e. (let past_others : length (next ∷ octets) ≤ feed (next ∷ octets) = omega (arith, feed_later octet (next ∷ octets) e, past) in
          lines_later octet (next ∷ octets) e ∙ ap (begun_with octet) (only_line (next ∷ octets) (omega arith) past_others))
    ] eb in
    by _ refl

-- what `position` says of the place
pub feed_found : (octets : List ℕ) (place : ℕ) → Some place ≡ position (λ octet. octet == 10) octets → place ≡ feed octets
feed_found octets place e = grind (arith, nat_tests)

pub feed_missing : (octets : List ℕ) → None ≡ position (λ octet. octet == 10) octets → length octets ≤ feed octets
feed_missing octets e = grind (arith, nat_tests)

-- the split at the first line feed
pub split_found : (octets first others : List ℕ) (place : ℕ) → Some place ≡ position (λ octet. octet == 10) octets → place < length octets → first ≡ take (place + 1) octets → others ≡ drop (place + 1) octets → lines_of octets ≡ first ∷ lines_of others
split_found octets first others place e within ef eo =
    let at : place ≡ feed octets = feed_found octets place e in
    rw (ef, eo, add-one, at) (first_line octets (omega (arith, at)))

pub split_missing : (octets first others : List ℕ) → None ≡ position (λ octet. octet == 10) octets → 0 < length octets → first ≡ take (length octets) octets → others ≡ drop (length octets) octets → lines_of octets ≡ first ∷ lines_of others
split_missing octets first others e some ef eo =
    rw (ef, eo, take_all (length octets) octets (omega arith), drop_all (length octets) octets (omega arith))
    (only_line octets some (feed_missing octets e))
