-- Values of JSON (RFC 8259), with no blanks between their tokens. Texts stand here as they are: none of theirs has an
-- octet that JSON would have escaped

use Rattle.std.specs.Prelude.{ℕ, zero, suc, Bool, true, false, List, [], ◌∷◌, ◌++◌, codes}

-- *A string* (RFC 8259 7)
abbrev pub string : (text : List ℕ) → List ℕ
string text = codes "\"" ++ (text ++ codes "\"")

-- *Literal names* (3)
abbrev pub truth : Bool → List ℕ
truth true = codes "true"
truth false = codes "false"

abbrev pub null : List ℕ
null = codes "null"

-- with a comma between each two
abbrev pub parted : List (List ℕ) → List ℕ
parted [] = []
parted (value ∷ []) = value
parted (value ∷ next ∷ values) = value ++ (codes "," ++ parted (next ∷ values))

-- what stands in front of the value at this place, counted from 0
abbrev pub comma : (place : ℕ) → List ℕ
comma zero = []
comma (suc place) = codes ","

-- *An array* of values (5)
abbrev pub array : List (List ℕ) → List ℕ
array values = codes "[" ++ (parted values ++ codes "]")

-- *An object* of members, each a value behind its name (4)
abbrev pub member : (name value : List ℕ) → List ℕ
member name value = string name ++ (codes ":" ++ value)

abbrev pub object : (members : List (List ℕ)) → List ℕ
object members = codes "{" ++ (parted members ++ codes "}")

-- *A line* of JSON Lines: a value and its end
abbrev pub json_line : (value : List ℕ) → List ℕ
json_line value = value ++ codes "\n"
