-- what is made of an input whose first lines were taken

use Rattle.std.proofs.Common.{◌≡◌, ◌⊎◌, inl, inr, ℕ, zero, suc, ◌+◌, ◌-◌, ◌<◌, ◌≤◌, ◌==◌, Bool, true, List, [], ◌∷◌, ◌++◌, append_assoc, append-nil, length, take, refl, sym, ◌∙◌, ap, subst, arith}
use Rattle.std.proofs.Math.Seq.{take-append-add}
use Rattle.std.proofs.lemmas.List.{length-take-le, take-append-le, take_all}
use Rattle.lab_io.specs.Lines.{feed}
use Rattle.lab_text.specs.Line.{input_limit, line_limit}
use Rattle.lab_text.specs.Lines.{begun_with, lines_of}
use Rattle.lab_text.specs.Words.{line_text}
use Rattle.lab_text.proofs.LineLemmas.{only_line}
use Rattle.line_by_line.specs.Account.{Account}
use Rattle.line_by_line.specs.Report.{account_of}
use Rattle.line_by_line.specs.Steps.{IsPast, IsTooLong}
use Rattle.line_by_line.specs.Reading.{IsSplit}
use Rattle.line_by_line.proofs.InputLines.{IsFirst, all_of_it, by_test, feed_at, feed_later, front_line, lines_at, lines_later, with_end}

take_front : (given rest : List ℕ) (n : ℕ) → length given ≤ n → take n (given ++ rest) ≡ given ++ take (n - length given) rest
take_front given rest n low =
    let all : n ≡ length given + (n - length given) = omega (arith, low) in
    ap (λ k. take k (given ++ rest)) all ∙ take-append-add given rest (n - length given)

-- a line that is cut short, before its end or with it
cut_line : (line : List ℕ) (n : ℕ) → length line ≤ suc (feed line) → 0 < n → n ≤ length line → lines_of (take n line) ≡ take n line ∷ []
cut_line [] n ahead some low = absurd (omega (arith, some, low))
cut_line line zero ahead some low = absurd (omega (arith, some))
cut_line (octet ∷ line) (suc zero) ahead some low = by_test (octet == 10)
    (λ is. lines_at octet [] is)
    (λ is. lines_later octet [] is)
cut_line (octet ∷ []) (suc (suc n)) ahead some low = absurd (omega (arith, low))
cut_line (octet ∷ next ∷ line) (suc (suc n)) ahead some low = by_test (octet == 10)
    (λ is. absurd (omega (arith, ahead, feed_at octet (next ∷ line) is)))
    (λ is. (let rest : length (next ∷ line) ≤ suc (feed (next ∷ line)) = omega (arith, ahead, feed_later octet (next ∷ line) is) in
    lines_later octet (take (suc n) (next ∷ line)) is ∙ ap (begun_with octet) (cut_line (next ∷ line) (suc n) rest (omega arith) (omega (arith, low)))))

module _ {O : Type 0} (account : List (List ℕ) → Account O) (given : List ℕ) (lines : List (List ℕ)) (low : length given < input_limit) (split : IsSplit given lines) where
  pub account_at : (rest : List ℕ) → account_of account (given ++ rest) ≡ account (lines ++ lines_of (take (input_limit - length given) rest))
  account_at rest =
      ap (λ xs. account (lines_of xs)) (take_front given rest input_limit (omega (arith, low))) ∙ ap account (split (take (input_limit - length given) rest))

  -- no line follows
  pub account_end : account_of account given ≡ account lines
  account_end = ap (account_of account) (sym (append-nil given)) ∙ account_at [] ∙ ap account (ap (λ xs. lines ++ lines_of xs) (none (input_limit - length given)) ∙ append-nil lines)
    where
      none : (n : ℕ) → take {A = ℕ} n [] ≡ []
      none zero = refl
      none (suc n) = refl

  -- one follows, with its end, and octets behind it
  pub account_next : (line others : List ℕ) → length given + length line < input_limit → ((more : List ℕ) → lines_of (line ++ more) ≡ line ∷ lines_of more)
      → account_of account (given ++ (line ++ others)) ≡ account (lines ++ line ∷ lines_of (take (input_limit - length given - length line) others))
  account_next line others few shape =
      account_at (line ++ others)
      ∙ ap (λ xs. account (lines ++ lines_of xs)) (take_front line others (input_limit - length given) (omega (arith, few)))
      ∙ ap (λ ls. account (lines ++ ls)) (shape (take (input_limit - length given - length line) others))

  -- one follows, and nothing behind it
  pub account_last : (line : List ℕ) → length given + length line < input_limit → lines_of line ≡ line ∷ [] → account_of account (given ++ line) ≡ account (lines ++ line ∷ [])
  account_last line few shape =
      account_at line ∙ ap (λ xs. account (lines ++ lines_of xs)) (take_all (input_limit - length given) line (omega (arith, few))) ∙ ap (λ ls. account (lines ++ ls)) shape

-- what octets may be left where all was seen
abbrev pub Fits : (given : ℕ) → (whole : Bool) → (seen others : List ℕ) → Type 0
Fits given whole seen others = whole ≡ true → (input_limit ≤ given + length seen) ⊎ (others ≡ [])

-- *A line that isn't kept* is the first of what follows
pub record Follows (Is : List ℕ → Type 0) (given : ℕ) (whole : Bool) (seen : List ℕ) : Type 0 where
  pub line : List ℕ
  pub is : Is line
  pub at : (others : List ℕ) → Fits given whole seen others → (rest : List (List ℕ)) × (lines_of (take (input_limit - given) (seen ++ others)) ≡ line ∷ rest)

no_text : line_limit < length (line_text []) → ⊥
no_text h = omega (arith, h)

pub long_follows : (given : ℕ) (whole : Bool) (seen line : List ℕ) → IsFirst whole seen line → given + length line < input_limit → line_limit < length (line_text line)
    → Follows (IsTooLong given) given whole seen
long_follows given whole seen line (with_end tail e f) few long = record {
  line = line;
  is = record { within = few; long = long };
  at = λ others fits. (
    lines_of (take (input_limit - given - length line) (tail ++ others)),
    ap (λ xs. lines_of (take (input_limit - given) (xs ++ others))) e
        ∙ ap (λ xs. lines_of (take (input_limit - given) xs)) (append_assoc line tail others)
        ∙ ap lines_of (take_front line (tail ++ others) (input_limit - given) (omega (arith, few)))
        ∙ front_line line (take (input_limit - given - length line) (tail ++ others)) f,
  );
}
long_follows given whole seen line (all_of_it w same f) few long = record {
  line = line;
  is = record { within = few; long = long };
  at = λ others fits. ([], only others (fits w));
}
  where
    some : (xs : List ℕ) → line_limit < length (line_text xs) → 0 < length xs
    some [] h = absurd (no_text h)
    some (x ∷ xs) h = omega arith

    only : (others : List ℕ) → (input_limit ≤ given + length seen) ⊎ (others ≡ []) → lines_of (take (input_limit - given) (seen ++ others)) ≡ line ∷ []
    only others (inl past) = (let size : length line ≡ length seen = ap length same in absurd (omega (arith, past, few, size)))
    only others (inr none) =
        let size : length line ≡ length seen = ap length same in
        ap (λ xs. lines_of (take (input_limit - given) (seen ++ xs))) none
        ∙ ap (λ xs. lines_of (take (input_limit - given) xs)) (append-nil seen ∙ sym same)
        ∙ ap lines_of (take_all (input_limit - given) line (omega (arith, few)))
        ∙ only_line line (some line long) (let high : feed line ≡ length line = subst (λ xs. feed xs ≡ length xs) (sym same) f in omega (arith, high))

pub past_follows : (given : ℕ) (whole : Bool) (seen line : List ℕ) → IsFirst whole seen line → given < input_limit → input_limit ≤ given + length line
    → Follows (IsPast given) given whole seen
past_follows given whole seen line first below past = record {
  line = take (input_limit - given) line;
  is = record { within = below; past = omega (arith, length-take-le (input_limit - given) line (omega (arith, past)), below) };
  at = λ others fits. ([], at first others);
}
  where
    within : input_limit - given ≤ length line
    within = omega (arith, past)

    at : IsFirst whole seen line → (others : List ℕ) → lines_of (take (input_limit - given) (seen ++ others)) ≡ take (input_limit - given) line ∷ []
    at (with_end tail e f) others =
        ap (λ xs. lines_of (take (input_limit - given) (xs ++ others))) e
        ∙ ap (λ xs. lines_of (take (input_limit - given) xs)) (append_assoc line tail others)
        ∙ ap lines_of (take-append-le (input_limit - given) line (tail ++ others) within)
        ∙ cut_line line (input_limit - given) (omega (arith, f)) (omega (arith, below)) within
    at (all_of_it w same f) others =
        ap (λ xs. lines_of (take (input_limit - given) (xs ++ others))) (sym same)
        ∙ ap lines_of (take-append-le (input_limit - given) line others within)
        ∙ cut_line line (input_limit - given) (let high : feed line ≡ length line = subst (λ xs. feed xs ≡ length xs) (sym same) f in omega (arith, high)) (omega (arith, below)) within
