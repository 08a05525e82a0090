-- The forms of numbers and octets in a text, and its lines

use Rattle.std.specs.Prelude.{ℕ, ◌+◌, ◌/◌, ◌%◌, List, [], ◌∷◌, ◌++◌, codes, nat_lt, if◌then◌else◌}
use Rattle.std.specs.List.{flat_map}

-- two lower-case hexadecimal digits an octet
abbrev pub hex_digit : ℕ → ℕ
hex_digit value = if nat_lt value 10 then 48 + value else 87 + value

abbrev pub hex_digits : List ℕ → List ℕ
hex_digits octets = flat_map (λ octet. hex_digit (octet / 16) ∷ hex_digit (octet % 16) ∷ []) octets

-- the words of a line, with a space between each two, and its end
abbrev pub line_of : List (List ℕ) → List ℕ
line_of [] = codes "\n"
line_of (word ∷ []) = word ++ codes "\n"
line_of (word ∷ next ∷ words) = word ++ (codes " " ++ line_of (next ∷ words))
