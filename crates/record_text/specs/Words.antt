-- The words behind the first one, where there are no others

use Rattle.std.specs.Prelude.{ℕ, List, [], ◌∷◌, Option, None, Some}
use Rattle.std.specs.Option.{option_map}

abbrev pub one : List (List ℕ) → Option (List ℕ)
one [] = None
one (word ∷ []) = Some word
one (word ∷ next ∷ words) = None

abbrev pub two : List (List ℕ) → Option (List ℕ × List ℕ)
two [] = None
two (word ∷ words) = option_map (λ last. (word, last)) (one words)

abbrev pub three : List (List ℕ) → Option (List ℕ × List ℕ × List ℕ)
three [] = None
three (word ∷ words) = option_map (λ last. (word, last.0, last.1)) (two words)

abbrev pub four : List (List ℕ) → Option (List ℕ × List ℕ × List ℕ × List ℕ)
four [] = None
four (word ∷ words) = option_map (λ last. (word, last.0, last.1, last.2)) (three words)

abbrev pub five : List (List ℕ) → Option (List ℕ × List ℕ × List ℕ × List ℕ × List ℕ)
five [] = None
five (word ∷ words) = option_map (λ last. (word, last.0, last.1, last.2, last.3)) (four words)
