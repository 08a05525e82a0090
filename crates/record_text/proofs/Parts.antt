-- Texts of several parts, as parts of a longer one

use Rattle.std.proofs.Common.{◌≡◌, List, ℕ, ◌∷◌, ◌++◌, codes, append_assoc, Result, Ok, Err, OnOk, ap, ◌∙◌}
use Rattle.lab_text.specs.Text.{line_of}

pub flat_3 : (a b c rest : List ℕ) → (a ++ (b ++ c)) ++ rest ≡ a ++ (b ++ (c ++ rest))
flat_3 a b c rest = append_assoc a (b ++ c) rest ∙ ap (λ xs. a ++ xs) (append_assoc b c rest)

pub flat_4 : (a b c d rest : List ℕ) → (a ++ (b ++ (c ++ d))) ++ rest ≡ a ++ (b ++ (c ++ (d ++ rest)))
flat_4 a b c d rest = append_assoc a (b ++ (c ++ d)) rest ∙ ap (λ xs. a ++ xs) (flat_3 b c d rest)

pub flat_5 : (a b c d e rest : List ℕ) → (a ++ (b ++ (c ++ (d ++ e)))) ++ rest ≡ a ++ (b ++ (c ++ (d ++ (e ++ rest))))
flat_5 a b c d e rest = append_assoc a (b ++ (c ++ (d ++ e))) rest ∙ ap (λ xs. a ++ xs) (flat_4 b c d e rest)

-- a line's first word and a name, each with a space behind it
pub named_line : (word name next : List ℕ) (words : List (List ℕ))
    → (word ++ (codes " " ++ (name ++ codes " "))) ++ line_of (next ∷ words) ≡ line_of (word ∷ name ∷ next ∷ words)
named_line word name next words = flat_4 word (codes " ") name (codes " ") (line_of (next ∷ words))

-- what follows from a fact of an outcome that is Ok
pub on_ok : {T E : Type 0} (outcome : Result T E) (A B : Type 0) → (A → B) → OnOk outcome A → OnOk outcome B
on_ok (Ok value) A B follows holds = follows holds
on_ok (Err error) A B follows holds = holds
