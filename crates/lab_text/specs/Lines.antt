-- the lines of a text

use Rattle.std.specs.Prelude.{ℕ, ◌==◌, List, [], ◌∷◌, if◌then◌else◌}

abbrev pub begun_with : ℕ → List (List ℕ) → List (List ℕ)
begun_with octet [] = (octet ∷ []) ∷ []
begun_with octet (line ∷ lines) = (octet ∷ line) ∷ lines

-- each line with its LF; the last may lack it
abbrev pub lines_of : List ℕ → List (List ℕ)
lines_of [] = []
lines_of (octet ∷ octets) =
    if octet == 10 then (octet ∷ []) ∷ lines_of octets else begun_with octet (lines_of octets)
