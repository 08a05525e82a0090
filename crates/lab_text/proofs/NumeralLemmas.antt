-- numbers that grow digit by digit
use Rattle.std.proofs.Common.{◌≡◌, ℕ, suc, ◌+◌, ◌*◌, ◌/◌, ◌<◌, ◌≤◌, Bool, true, false, List, [], ◌∷◌, Some, None, length, nat_lt, slice_index, get_or, arith, refl, sym, ap₂, ◌∙◌, if◌then◌else◌}
use Rattle.std.proofs.Math.Nat.{le_trans}
use Rattle.std.proofs.lemmas.Bool.Decides.{nat_tests}
use Rattle.std.specs.Char.{digit_value}
use Rattle.std.specs.Str.Parse.{digits_value_after}
use Rattle.lab_text.specs.Numeral.{below, paired}

step-le : (n d v : ℕ) → n * 10 + d ≤ v → n ≤ v
step-le n d v h = omega arith

-- more digits make a number no smaller
value_after-ge : (n : ℕ) (digits : List ℕ) → n ≤ digits_value_after 10 n digits
value_after-ge n [] = omega arith
value_after-ge n (c ∷ cs) = step-le n (digit_value c) _ (value_after-ge (n * 10 + digit_value c) cs)

-- nothing is below a limit that is too low
below-None : (limit n : ℕ) → below limit (Some n) ≡ None → limit ≤ n
below-None limit n none = by (nat_lt n limit) refl none
  where
    by : (less : Bool) → nat_lt n limit ≡ less → (if less then Some n else None) ≡ None → limit ≤ n
    by true e h = cc
    by false e h = grind (arith, nat_tests)

below-le : (limit n : ℕ) → limit ≤ n → below limit (Some n) ≡ None
below-le limit n above =
    let fails : nat_lt n limit ≡ false = grind (arith, nat_tests) in
    rw fails refl

below-lt : (limit n : ℕ) → n < limit → below limit (Some n) ≡ Some n
below-lt limit n under =
    let passes : nat_lt n limit ≡ true = grind (arith, nat_tests) in
    rw passes refl

-- a number that is too large with one more digit is too large with all of them
pub too_large : (limit n : ℕ) (digits : List ℕ) (whole : ℕ) → 1 ≤ length digits → digits_value_after 10 n digits ≡ whole
    → below limit (Some (n * 10 + digit_value (slice_index digits 0))) ≡ None → None ≡ below limit (Some whole)
too_large limit n [] whole some value none = absurd (omega arith)
too_large limit n (c ∷ cs) whole some value none =
    let above : limit ≤ n * 10 + digit_value c = below-None limit (n * 10 + digit_value c) none in
    let rises : n * 10 + digit_value c ≤ whole = rw (← value) (value_after-ge (n * 10 + digit_value c) cs) in
    sym (below-le limit whole (le_trans above rises))

-- with no digit left the number is the whole
pub whole_number : (limit n : ℕ) (digits : List ℕ) (whole : ℕ) → length digits < 1 → digits_value_after 10 n digits ≡ whole
    → n < limit → Some n ≡ below limit (Some whole)
whole_number limit n [] whole short value under = rw (← value) (sym (below-lt limit n under))
whole_number limit n (c ∷ cs) whole short value under = absurd (omega arith)

-- octets of which each is that of its two digits
pub paired_is : (digits octets : List ℕ) → length octets ≡ length digits / 2
    → ((i : ℕ) → i < length octets → get_or octets i 0 ≡ 16 * digit_value (get_or digits (2 * i) 0) + digit_value (get_or digits (2 * i + 1) 0))
    → octets ≡ paired digits
paired_is [] [] size each = refl
paired_is [] (o ∷ octets) size each = absurd (omega arith)
paired_is (d ∷ []) [] size each = refl
paired_is (d ∷ []) (o ∷ octets) size each = absurd (omega arith)
paired_is (high ∷ low ∷ digits) [] size each = absurd (omega arith)
paired_is (high ∷ low ∷ digits) (o ∷ octets) size each =
    let later : (i : ℕ) → i < length octets → get_or octets i 0 ≡ 16 * digit_value (get_or digits (2 * i) 0) + digit_value (get_or digits (2 * i + 1) 0) = λ i within.
    (let first : 2 * suc i ≡ suc (suc (2 * i)) = omega arith in
    let second : 2 * suc i + 1 ≡ suc (suc (2 * i + 1)) = omega arith in
    each (suc i) (omega arith)
    ∙ ap₂ (λ m n. 16 * digit_value (get_or (high ∷ low ∷ digits) m 0) + digit_value (get_or (high ∷ low ∷ digits) n 0)) first second) in
    ap₂ ◌∷◌ (each 0 (omega arith)) (paired_is digits octets (omega arith) later)

-- half as many octets as digits
pub paired_len : (digits : List ℕ) → length (paired digits) ≡ length digits / 2
paired_len [] = refl
paired_len (d ∷ []) = refl
paired_len (high ∷ low ∷ digits) = omega (arith, paired_len digits)
