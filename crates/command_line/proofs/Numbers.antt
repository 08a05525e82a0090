-- a word spells the number of a drill exactly where it is that number's text

use Rattle.std.proofs.Common.{◌≡◌, ◌∙◌, ℕ, ◌^◌, ◌<◌, ◌≤◌, ◌==◌, ◌&&◌, ◌||◌, Bool, true, false, not, List, [], ◌∷◌, length, nat_lt, nat_le, slice_index, get_or, None, Some, decimal, refl, sym, ap, arith}
use Rattle.std.specs.Prelude.{if◌then◌else◌}
use Rattle.std.specs.List.{list_all}
use Rattle.std.specs.Char.{is_ascii_digit}
use Rattle.std.specs.Str.{all_ascii_digits}
use Rattle.std.specs.Str.Parse.{digits_value}
use Rattle.std.proofs.lemmas.Bool.Decides.{nat_tests}
use Rattle.std.proofs.lemmas.Fmt.{decimal-digits_value}
use Rattle.std.proofs.lemmas.Str.Parse.{numerals_by_value, tells_all_ascii_digits}
use Rattle.lab_text.specs.Numeral.{is_number}
use Rattle.lab_text.specs.Forms.{number_in, within}
use Rattle.script_model.proofs.Numbers.{decimal_digits, number_in_back}
use Rattle.command_line.specs.Reading.{is_barred}

-- *From a number to its text and back*
pub drill_read : (n : ℕ) → 1 ≤ n → n ≤ 9999 → number_in 1 9999 (decimal n) ≡ Some n
drill_read n above below = number_in_back 1 9999 n above below (omega arith)

-- *From a text to its number and back*
both : (a b : Bool) → (a && b) ≡ true → (a ≡ true) × (b ≡ true)
both true b e = (refl, e)
both false b e = absurd (cc)

all_is : (ds : List ℕ) → list_all is_ascii_digit ds ≡ all_ascii_digits ds
all_is [] = refl
all_is (c ∷ cs) = ap (λ b. is_ascii_digit c && b) (all_is cs)

text_back : (word : List ℕ) → is_number word ≡ true → digits_value 10 word < 2 ^ 64 → decimal (digits_value 10 word) ≡ word
text_back word is few =
    let outer = both (nat_lt 0 (length word) && list_all is_ascii_digit word) (length word == 1 || not (slice_index word 0 == 48)) is in
    let inner = both (nat_lt 0 (length word)) (list_all is_ascii_digit word) outer.0 in
    let some : 0 < length word = grind (arith, nat_tests) in
    decimal-digits_value (numerals_by_value (λ ds. all_ascii_digits ds ≡ true) tells_all_ascii_digits) word (sym (all_is word) ∙ inner.1) some (leading outer.1) few
  where
    by : (one : Bool) → length word == 1 ≡ one → (one || false) ≡ true → length word ≡ 1
    by true is_one e = grind (arith, nat_tests)
    by false is_one e = absurd (cc)

    leading : (length word == 1 || not (slice_index word 0 == 48)) ≡ true → get_or word 0 0 ≡ 48 → length word ≡ 1
    leading e zero_first =
        let test : slice_index word 0 == 48 ≡ true = grind (arith, nat_tests) in
        by (length word == 1) refl (rw test at e)

pub record IsDrill (word : List ℕ) (n : ℕ) : Type 0 where
  pub text : word ≡ decimal n
  pub above : 1 ≤ n
  pub below : n ≤ 9999

pub drill_told : (word : List ℕ) (n : ℕ) → number_in 1 9999 word ≡ Some n → IsDrill word n
drill_told word n e = by (is_number word) refl e
  where
    value : ℕ
    value = digits_value 10 word

    on : (a : Bool) → nat_le 1 value ≡ a → (b : Bool) → nat_le value 9999 ≡ b → is_number word ≡ true
        → (if a && b then Some value else None) ≡ Some n → IsDrill word n
    on false ea b eb is e = absurd (cc)
    on true ea false eb is e = absurd (cc)
    on true ea true eb is e =
        let same : value ≡ n = cc in
        let above : 1 ≤ value = grind (arith, nat_tests) in
        let below : value ≤ 9999 = grind (arith, nat_tests) in
        let text : decimal value ≡ word = text_back word is (omega arith) in
        record { text = cc; above = omega arith; below = omega arith }

    by : (is : Bool) → is_number word ≡ is → within 1 9999 (if is then Some value else None) ≡ Some n → IsDrill word n
    by false is e = absurd (cc)
    by true is e = on (nat_le 1 value) refl (nat_le value 9999) refl is e

-- *A number's text* isn't barred
digits_pass : (ds : List ℕ) → list_all is_ascii_digit ds ≡ true → is_barred ds ≡ false
digits_pass [] all = refl
digits_pass (c ∷ cs) all =
    let digit : is_ascii_digit c ≡ true = (both (is_ascii_digit c) (list_all is_ascii_digit cs) all).0 in
    let dash : 45 == c ≡ false = grind (arith, nat_tests) in
    let letter : c == 104 ≡ false = grind (arith, nat_tests) in
    rw (dash, letter) refl

pub drill_passes : (n : ℕ) → n ≤ 9999 → is_barred (decimal n) ≡ false
drill_passes n below = digits_pass (decimal n) (decimal_digits n (omega arith))
