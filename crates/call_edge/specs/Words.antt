-- Words that aren't text

use Rattle.std.specs.Prelude.{◌≡◌, ℕ, List, ◌∷◌, ◌++◌, IsUtf8}

-- the octets of one of them aren't UTF-8
pub record HasNoText (words : List (List ℕ)) : Type 0 where
  pub before : List (List ℕ)
  pub word : List ℕ
  pub behind : List (List ℕ)
  pub words_are : words ≡ before ++ word ∷ behind
  pub no_text : IsUtf8 word → ⊥
