-- a line's words are found again in it

use Rattle.std.proofs.Common.{◌≡◌, ℕ, suc, ◌+◌, ◌-◌, ◌<◌, ◌==◌, ◌&&◌, Bool, true, false, not, List, [], ◌∷◌, ◌++◌, length, drop, filter, nat_lt, nat_le, nat_eq, get_or, refl, sym, ap, ◌∙◌, arith, length-append, append_assoc}
use Rattle.std.specs.List.{list_all, slice_split}
use Rattle.std.specs.Cmp.Lexicographic.{pointwise}
use Rattle.std.proofs.Math.Seq.{take-append_seam, drop-append_seam}
use Rattle.std.proofs.lemmas.Bool.Decides.{nat_tests}
use Rattle.std.proofs.lemmas.List.Splits.{slice_split_none, slice_split_at}
use Rattle.std.proofs.lemmas.List.Sums.{AllPass-from_list_all}
use Rattle.std.proofs.lemmas.List.Folds.{list_all-append}
use Rattle.std.specs.List.{All}
use Rattle.rule_model.specs.lab_text.Words.{is_blank, line_text, words}
use Rattle.rule_model.specs.lab_text.Text.{line_of}
use Rattle.script_model.proofs.Numbers.{lacks_sign}

-- an octet of a word
abbrev pub is_plain : ℕ → Bool
is_plain octet = nat_lt 32 octet && nat_le octet 126

abbrev pub IsWord : List ℕ → Type 0
IsWord word = (0 < length word) × (list_all is_plain word ≡ true)

abbrev pub AreWords : List (List ℕ) → Type 0
AreWords [] = Unit {0}
AreWords (word ∷ words) = IsWord word × AreWords words

-- words with a space between each two
abbrev pub joined : List (List ℕ) → List ℕ
joined [] = []
joined (word ∷ []) = word
joined (word ∷ next ∷ words) = word ++ 32 ∷ joined (next ∷ words)

line_joined : (ws : List (List ℕ)) → line_of ws ≡ joined ws ++ 10 ∷ []
line_joined [] = refl
line_joined (word ∷ []) = refl
line_joined (word ∷ next ∷ ws) =
    ap (λ rest. word ++ 32 ∷ rest) (line_joined (next ∷ ws))
    ∙ sym (append_assoc word (32 ∷ joined (next ∷ ws)) (10 ∷ []))

-- *A plain octet* is no blank and no CR
plain_not_blank : (octet : ℕ) → is_plain octet ≡ true → is_blank octet ≡ false
plain_not_blank octet plain = by (nat_lt 32 octet) refl plain
  where
    by : (above : Bool) → nat_lt 32 octet ≡ above → (above && nat_le octet 126) ≡ true → is_blank octet ≡ false
    by true e rest =
        let space : octet == 32 ≡ false = grind (arith, nat_tests) in
        let tab : octet == 9 ≡ false = grind (arith, nat_tests) in
        rw (space, tab) refl
    by false e rest = absurd (cc)

no_blanks : (word : List ℕ) → list_all is_plain word ≡ true → All (λ octet. is_blank octet ≡ false) word
no_blanks word plain k d within = plain_not_blank (get_or word k d) (AllPass-from_list_all is_plain word plain k d within)

-- *Words*
some_word : (word : List ℕ) (others : List (List ℕ)) → 0 < length word
    → filter (λ part. nat_lt 0 (length part)) (word ∷ others) ≡ word ∷ filter (λ part. nat_lt 0 (length part)) others
some_word word others some =
    let passes : nat_lt 0 (length word) ≡ true = grind (arith, nat_tests) in
    rw passes refl

pub words_joined : (ws : List (List ℕ)) → AreWords ws → words (joined ws) ≡ ws
words_joined [] are = refl
words_joined (word ∷ []) are =
    ap (filter (λ part. nat_lt 0 (length part))) (slice_split_none is_blank word (no_blanks word are.0.1))
    ∙ some_word word [] are.0.0
words_joined (word ∷ next ∷ ws) are =
    ap (filter (λ part. nat_lt 0 (length part)))
    (slice_split_at is_blank word 32 (joined (next ∷ ws)) (no_blanks word are.0.1) refl)
    ∙ some_word word (slice_split is_blank (joined (next ∷ ws))) are.0.0
    ∙ ap (λ rest. word ∷ rest) (words_joined (next ∷ ws) are.1)

-- *The end of a line*
last_is_no_cr : (body : List ℕ) → list_all (λ octet. not (octet == 13)) body ≡ true
    → pointwise nat_eq (13 ∷ 10 ∷ []) (drop (length body - 1) (body ++ 10 ∷ [])) ≡ false
last_is_no_cr [] none = refl
last_is_no_cr (c ∷ []) none = by (c == 13) refl none
  where
    by : (is : Bool) → c == 13 ≡ is → (not is && true) ≡ true → pointwise nat_eq (13 ∷ 10 ∷ []) (c ∷ 10 ∷ []) ≡ false
    by true e rest = absurd (cc)
    by false e rest =
        let other : nat_eq 13 c ≡ false = grind (arith, nat_tests) in
        rw other refl
last_is_no_cr (c ∷ d ∷ ds) none = by (not (c == 13)) none (last_is_no_cr (d ∷ ds))
  where
    by : (first : Bool) → (first && list_all (λ octet. not (octet == 13)) (d ∷ ds)) ≡ true
        → (list_all (λ octet. not (octet == 13)) (d ∷ ds) ≡ true
        → pointwise nat_eq (13 ∷ 10 ∷ []) (drop (length (d ∷ ds) - 1) ((d ∷ ds) ++ 10 ∷ [])) ≡ false)
        → pointwise nat_eq (13 ∷ 10 ∷ []) (drop (length (c ∷ d ∷ ds) - 1) ((c ∷ d ∷ ds) ++ 10 ∷ [])) ≡ false
    by true e rest =
        let one : length (c ∷ d ∷ ds) - 1 ≡ suc (length (d ∷ ds) - 1) = omega arith in
        rw one (rest e)
    by false e rest = absurd (cc)

pub text_of_line : (body : List ℕ) → list_all (λ octet. not (octet == 13)) body ≡ true
    → line_text (body ++ 10 ∷ []) ≡ body
text_of_line body none =
    let long : length (body ++ 10 ∷ []) ≡ length body + 1 = length-append body (10 ∷ []) in
    let two : length (body ++ 10 ∷ []) - 2 ≡ length body - 1 = omega (arith, long) in
    let one : length (body ++ 10 ∷ []) - 1 ≡ length body = omega (arith, long) in
    rw (two, last_is_no_cr body none, one, drop-append_seam body (10 ∷ []), take-append_seam body (10 ∷ [])) refl

-- the words of a line are those that were written
no_cr : (ws : List (List ℕ)) → AreWords ws → list_all (λ octet. not (octet == 13)) (joined ws) ≡ true
no_cr [] are = refl
no_cr (word ∷ []) are = lacks_sign is_plain 13 refl word are.0.1
no_cr (word ∷ next ∷ ws) are =
    list_all-append (λ octet. not (octet == 13)) word (32 ∷ joined (next ∷ ws))
    ∙ rw (lacks_sign is_plain 13 refl word are.0.1, no_cr (next ∷ ws) are.1) refl

pub words_of_line : (ws : List (List ℕ)) → AreWords ws → words (line_text (line_of ws)) ≡ ws
words_of_line ws are =
    ap (λ line. words (line_text line)) (line_joined ws)
    ∙ ap words (text_of_line (joined ws) (no_cr ws are))
    ∙ words_joined ws are
