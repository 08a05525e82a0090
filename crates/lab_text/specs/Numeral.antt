-- decimal numbers and hexadecimal octets

use Rattle.std.specs.Prelude.{ℕ, ◌+◌, ◌*◌, ◌%◌, ◌==◌, ◌&&◌, ◌||◌, nat_lt, Bool, not, List, [], ◌∷◌, length, slice_index, Option, Some, None, if◌then◌else◌}
use Rattle.std.specs.Char.{digit_value, is_ascii_digit, is_ascii_hexdigit}
use Rattle.std.specs.List.{list_all}
use Rattle.std.specs.Str.Parse.{digits_value}

-- one decimal digit at least, and no leading zero but in "0" itself
abbrev pub is_number : List ℕ → Bool
is_number word =
    nat_lt 0 (length word) && list_all is_ascii_digit word && (length word == 1 || not (slice_index word 0 == 48))

-- the number that a word spells in decimal
abbrev pub number : List ℕ → Option ℕ
number word = if is_number word then Some (digits_value 10 word) else None

-- that number, where it is below the limit
abbrev pub below : ℕ → Option ℕ → Option ℕ
below limit None = None
below limit (Some n) = if nat_lt n limit then Some n else None

-- an even number of hexadecimal digits of either case
abbrev pub is_hex : List ℕ → Bool
is_hex word = (length word % 2 == 0) && list_all is_ascii_hexdigit word

-- an octet for each two digits, the first digit highest
abbrev pub paired : List ℕ → List ℕ
paired [] = []
paired (high ∷ []) = []
paired (high ∷ low ∷ digits) = (16 * digit_value high + digit_value low) ∷ paired digits

-- the octets that a word spells in hexadecimal
abbrev pub hex_octets : List ℕ → Option (List ℕ)
hex_octets word = if is_hex word then Some (paired word) else None
