-- texts without LF: numbers, octets and what is joined of them; a line of such words has its LF at its end alone

use Rattle.std.proofs.Common.{◌≡◌, ℕ, zero, suc, ◌+◌, ◌<◌, ◌/◌, ◌%◌, ◌==◌, Bool, true, false, not, List, [], ◌∷◌, ◌++◌, nat_lt, decimal, append_assoc, refl, sym, ◌∙◌, ap, subst, arith, if◌then◌else◌}
use Rattle.std.specs.List.{list_all}
use Rattle.std.proofs.lemmas.Bool.Decides.{nat_tests}
use Rattle.std.proofs.lemmas.List.Concat.{flat_map-cons}
use Rattle.std.proofs.lemmas.List.Folds.{list_all-append}
use Rattle.std.specs.Fmt.{digit_glyph, digits_onto, digits}
use Rattle.lab_text.specs.Text.{hex_digit, hex_digits, line_of}

-- no octet is an LF
abbrev pub IsText : List ℕ → Type 0
IsText text = list_all (λ octet. not (octet == 10)) text ≡ true

abbrev pub AreTexts : List (List ℕ) → Type 0
AreTexts [] = Unit {0}
AreTexts (word ∷ words) = IsText word × AreTexts words

-- an LF ends it, and is its only one
pub record IsLine (line : List ℕ) : Type 0 where
  pub text : List ℕ
  pub is_text : IsText text
  pub ends : line ≡ text ++ 10 ∷ []

pub on_both : {A : Type 0} (P : A → Type 0) (b : Bool) (x y : A) → P x → P y → P (if b then x else y)
on_both P true x y p q = p
on_both P false x y p q = q

-- *Joined*
pub text_more : (octet : ℕ) (text : List ℕ) → not (octet == 10) ≡ true → IsText text → IsText (octet ∷ text)
text_more octet text is rest = rw (is, rest) refl

pub text_join : (xs ys : List ℕ) → IsText xs → IsText ys → IsText (xs ++ ys)
text_join xs ys first second = list_all-append (λ octet. not (octet == 10)) xs ys ∙ rw (first, second) refl

-- *Numbers and octets*
above : (octet : ℕ) → 10 < octet → not (octet == 10) ≡ true
above octet high = ap not (apart octet high)
  where
    apart : (n : ℕ) → 10 < n → (n == 10) ≡ false
    apart n high = grind (arith, nat_tests)

glyph_text : (d : ℕ) → not (digit_glyph false d == 10) ≡ true
glyph_text d = on_both (λ (octet : ℕ). not (octet == 10) ≡ true) (nat_lt d 10) (48 + d) (87 + d) (above (48 + d) (omega arith)) (above (87 + d) (omega arith))

onto_text : (k n : ℕ) (acc : List ℕ) → IsText acc → IsText (digits_onto k 10 false n acc)
onto_text zero n acc h = h
onto_text (suc k) n acc h =
    let now : IsText (digit_glyph false (n % 10) ∷ acc) = text_more (digit_glyph false (n % 10)) acc (glyph_text (n % 10)) h in
    on_both IsText (n / 10 == 0) (digit_glyph false (n % 10) ∷ acc) (digits_onto k 10 false (n / 10) (digit_glyph false (n % 10) ∷ acc)) now
    (onto_text k (n / 10) (digit_glyph false (n % 10) ∷ acc) now)

pub decimal_text : (n : ℕ) → IsText (decimal n)
unfolding digits
decimal_text n = onto_text 64 n [] refl

hex_text : (value : ℕ) → not (hex_digit value == 10) ≡ true
hex_text value = on_both (λ (octet : ℕ). not (octet == 10) ≡ true) (nat_lt value 10) (48 + value) (87 + value) (above (48 + value) (omega arith)) (above (87 + value) (omega arith))

pub hex_digits_text : (octets : List ℕ) → IsText (hex_digits octets)
hex_digits_text [] = refl
hex_digits_text (octet ∷ octets) =
    let two : List ℕ = hex_digit (octet / 16) ∷ hex_digit (octet % 16) ∷ [] in
    subst IsText (sym (flat_map-cons (λ (o : ℕ). hex_digit (o / 16) ∷ hex_digit (o % 16) ∷ []) octet octets))
    (text_join two (hex_digits octets)
    (text_more (hex_digit (octet / 16)) (hex_digit (octet % 16) ∷ []) (hex_text (octet / 16)) (text_more (hex_digit (octet % 16)) [] (hex_text (octet % 16)) refl))
    (hex_digits_text octets))

-- *A line* of words
pub line_is : (words : List (List ℕ)) → AreTexts words → IsLine (line_of words)
line_is [] are = record { text = []; is_text = refl; ends = refl }
line_is (word ∷ []) are = record { text = word; is_text = are.0; ends = refl }
line_is (word ∷ next ∷ words) are =
    let rest : IsLine (line_of (next ∷ words)) = line_is (next ∷ words) are.1 in
    record {
      text = word ++ 32 ∷ rest.text;
      is_text = text_join word (32 ∷ rest.text) are.0 (text_more 32 rest.text refl rest.is_text);
      ends = ap (λ (xs : List ℕ). word ++ 32 ∷ xs) rest.ends ∙ sym (append_assoc word (32 ∷ rest.text) (10 ∷ []));
    }
