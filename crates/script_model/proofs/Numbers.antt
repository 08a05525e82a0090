-- numbers are read back from their texts, and signs part texts again

use Rattle.std.proofs.Common.{◌≡◌, ℕ, zero, suc, ◌^◌, ◌<◌, ◌≤◌, ◌==◌, ◌&&◌, ◌||◌, Bool, true, false, not, List, [], ◌∷◌, ◌++◌, length, nat_lt, nat_le, slice_index, Some, decimal, refl, sym, ap, ◌∙◌, arith, length-append}
use Rattle.std.specs.List.{list_all, position_or_len}
use Rattle.std.specs.Char.{is_ascii_digit}
use Rattle.std.specs.Str.{all_ascii_digits}
use Rattle.std.specs.Str.Parse.{digits_value}
use Rattle.std.proofs.lemmas.Bool.Decides.{nat_tests}
use Rattle.std.proofs.lemmas.Fmt.{digits_decimal, digits_value-decimal, decimal_nonempty, first_decimal, decimal_digit}
use Rattle.std.proofs.lemmas.Str.Parse.{numerals_by_value, tells_all_ascii_digits}
use Rattle.std.proofs.Math.Seq.{take-append_seam, drop-append-add}
use Rattle.rule_model.specs.lab_text.Numeral.{is_number, number}
use Rattle.rule_model.specs.lab_text.Forms.{number_in, parts}

-- *Digits*
all_is : (ds : List ℕ) → list_all is_ascii_digit ds ≡ all_ascii_digits ds
all_is [] = refl
all_is (c ∷ cs) = ap (λ b. is_ascii_digit c && b) (all_is cs)

pub decimal_digits : (n : ℕ) → n < 2 ^ 64 → list_all is_ascii_digit (decimal n) ≡ true
decimal_digits n few =
    all_is (decimal n)
    ∙ digits_decimal (numerals_by_value (λ ds. all_ascii_digits ds ≡ true) tells_all_ascii_digits) n few

decimal_value : (n : ℕ) → n < 2 ^ 64 → digits_value 10 (decimal n) ≡ n
decimal_value n few =
    digits_value-decimal (numerals_by_value (λ ds. all_ascii_digits ds ≡ true) tells_all_ascii_digits) n few

or_true : (b : Bool) → (b || true) ≡ true
or_true true = refl
or_true false = refl

decimal_is_number : (n : ℕ) → n < 2 ^ 64 → is_number (decimal n) ≡ true
decimal_is_number zero few = rw (decimal_digit 0 (omega arith)) refl
decimal_is_number (suc m) few =
    let some : nat_lt 0 (length (decimal (suc m))) ≡ true = grind (arith, nat_tests, decimal_nonempty (suc m) few) in
    let first : slice_index (decimal (suc m)) 0 == 48 ≡ false =
    grind (arith, nat_tests, first_decimal (suc m) (omega arith) few) in
    rw (some, decimal_digits (suc m) few, first) (or_true (length (decimal (suc m)) == 1))

pub number_back : (n : ℕ) → n < 2 ^ 64 → number (decimal n) ≡ Some n
number_back n few = rw (decimal_is_number n few) (ap Some (decimal_value n few))

pub number_in_back : (least greatest n : ℕ) → least ≤ n → n ≤ greatest → n < 2 ^ 64
    → number_in least greatest (decimal n) ≡ Some n
number_in_back least greatest n above below few =
    let low : nat_le least n ≡ true = grind (arith, nat_tests) in
    let high : nat_le n greatest ≡ true = grind (arith, nat_tests) in
    rw (number_back n few, low, high) refl

-- *Signs*: a text without a sign
abbrev pub lacks : (sign : ℕ) → List ℕ → Bool
lacks sign text = list_all (λ octet. not (octet == sign)) text

-- octets that pass a test that the sign fails
pub lacks_sign : (test : ℕ → Bool) (sign : ℕ) → test sign ≡ false → (text : List ℕ) → list_all test text ≡ true
    → lacks sign text ≡ true
lacks_sign test sign fails [] all = refl
lacks_sign test sign fails (c ∷ cs) all = by (test c) refl (c == sign) refl all (lacks_sign test sign fails cs)
  where
    by : (passes : Bool) → test c ≡ passes → (is : Bool) → c == sign ≡ is → (passes && list_all test cs) ≡ true
        → (list_all test cs ≡ true → lacks sign cs ≡ true) → lacks sign (c ∷ cs) ≡ true
    by false told is same e rest = absurd (cc)
    by true told true same e rest =
        let equal : c ≡ sign = grind (arith, nat_tests) in
        let both : true ≡ false = sym told ∙ ap test equal ∙ fails in
        absurd (cc)
    by true told false same e rest = rw same (rest e)

-- the place of a sign behind such a text
before_sign : (sign : ℕ) (xs ys : List ℕ) → lacks sign xs ≡ true
    → position_or_len (λ octet. octet == sign) (xs ++ sign ∷ ys) ≡ length xs
before_sign sign [] ys none =
    let same : sign == sign ≡ true = grind (arith, nat_tests) in
    rw same refl
before_sign sign (c ∷ cs) ys none = by (c == sign) refl none (before_sign sign cs ys)
  where
    by : (is : Bool) → c == sign ≡ is → (not is && lacks sign cs) ≡ true
        → (lacks sign cs ≡ true → position_or_len (λ octet. octet == sign) (cs ++ sign ∷ ys) ≡ length cs)
        → position_or_len (λ octet. octet == sign) (c ∷ (cs ++ sign ∷ ys)) ≡ length (c ∷ cs)
    by true same e rest = absurd (cc)
    by false same e rest = rw same (omega (arith, rest e))

-- a sign parts a text where it stands first
pub parts_back : (sign : ℕ) (xs ys : List ℕ) → lacks sign xs ≡ true → parts sign (xs ++ sign ∷ ys) ≡ Some (xs, ys)
parts_back sign xs ys none =
    let place : position_or_len (λ octet. octet == sign) (xs ++ sign ∷ ys) ≡ length xs = before_sign sign xs ys none in
    let within : nat_lt (length xs) (length (xs ++ sign ∷ ys)) ≡ true =
    grind (arith, nat_tests, length-append xs (sign ∷ ys)) in
    rw (place, within, take-append_seam xs (sign ∷ ys), drop-append-add xs (sign ∷ ys) 1) refl
