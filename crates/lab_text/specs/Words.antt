-- the words of a line; the grammar is this project's own

use Rattle.std.specs.Prelude.{ℕ, ◌-◌, ◌==◌, ◌&&◌, ◌||◌, nat_eq, nat_lt, nat_le, Bool, true, List, [], ◌∷◌, length, take, codes, filter, if◌then◌else◌}
use Rattle.std.specs.List.{slice_split, ends_with, starts_with}

-- a space or a tab
abbrev pub is_blank : ℕ → Bool
is_blank octet = octet == 32 || octet == 9

-- 20 to 7E hexadecimal, or a tab
abbrev pub is_script_octet : ℕ → Bool
is_script_octet octet = (nat_le 32 octet && nat_le octet 126) || octet == 9

-- a line without the LF or the CR LF at its end
abbrev pub line_text : List ℕ → List ℕ
line_text line =
    if ends_with nat_eq line (codes "\r\n") then take (length line - 2) line
    else if ends_with nat_eq line (codes "\n") then take (length line - 1) line
    else line

-- the parts between blanks that aren't empty
abbrev pub words : List ℕ → List (List ℕ)
words octets = filter (λ part. nat_lt 0 (length part)) (slice_split is_blank octets)

-- a text is blank that has no word, or a first word that begins with '#'
abbrev pub is_blank_text : List (List ℕ) → Bool
is_blank_text [] = true
is_blank_text (word ∷ _) = starts_with nat_eq word (codes "#")

abbrev pub is_blank_line : List ℕ → Bool
is_blank_line text = is_blank_text (words text)
